use Rattle.std.proofs.Common.{◌≡◌, take}
use Rattle.bx_journal_model.specs.Calls.{rows_of}
use Rattle.bx_journal_format.specs.Parsed.{entries_of}
use Rattle.bx_journal.proofs.session.log.rows.Given as goal

abbrev pub invariant-loop-i : goal.invariant-loop-i
invariant-loop-i g l = l.rows.items ≡ rows_of (entries_of (take l.i l.entries))
