use Rattle.std.proofs.Common.{◌≡◌, None, arith}
use Rattle.std.specs.Prelude.{is_some, IsTrue}
use Rattle.std.proofs.lemmas.Grind.{common_steps}
use Rattle.bx_journal.proofs.JudgeLemmas.{told_more, untold_at}
use Rattle.bx_journal.proofs.recovery.redo.first_untold.Goals as goal

pub loop-entry-init : goal.loop-entry-init
loop-entry-init g c = tt

pub returns-then-is_none-clause-some : goal.returns-then-is_none-clause-some
returns-then-is_none-clause-some g c =
    let none : c.entry-item.result.after ≡ None = grind (arith, common_steps) in
    untold_at c.args.entries.now c.loop-entry.entry-index c.entry-item.result c.loop-entry-test.true c.entry-item.is c.loop-entry.invariant none

pub loop-entry-preserved : goal.loop-entry-preserved
loop-entry-preserved g c =
    let some : IsTrue (is_some c.entry-item.result.after) = grind (arith, common_steps) in
    told_more c.args.entries.now c.loop-entry.entry-index c.entry-item.result c.loop-entry-test.true c.entry-item.is c.loop-entry.invariant some
