use Rattle.std.proofs.Common.{◌-◌, inr, arith}
use Rattle.bx_journal.proofs.JudgeLemmas.{beyond_at}
use Rattle.bx_journal.proofs.recovery.redo.unfit_entry.Goals as goal

pub returns-clause-some : goal.returns-clause-some
returns-clause-some g c =
    inr (beyond_at c.args.entries.now c.args.changes (65535 - c.args.changes) c.in_ok-entry.entry.now c.in_ok-entry.ensures.lookup.3.0 c.in_ok-entry.ensures.lookup.1 c.in_default.ensures.none (omega (arith, c.requires)))
