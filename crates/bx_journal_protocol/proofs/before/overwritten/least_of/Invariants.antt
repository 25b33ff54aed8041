use Rattle.std.proofs.Common.{◌≤◌, take}
use Rattle.std.specs.Prelude.{All}
use Rattle.bx_journal_format.specs.declared.read.types.EntryRead.{EntryRead}
use Rattle.bx_journal_protocol.proofs.before.overwritten.least_of.Given as goal

abbrev pub invariant-loop-entry : goal.invariant-loop-entry
invariant-loop-entry g l = record {
  least : All (λ (e : EntryRead g.row.A.Denot). l.least ≤ e.kept.len) (take l.entry-index l.entries);
  most : l.least ≤ l.len;
}
