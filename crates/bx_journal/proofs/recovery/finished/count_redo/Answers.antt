use Rattle.std.proofs.Common.{true, subst, arith}
use Rattle.std.specs.Prelude.{IfSome}
use Rattle.bx_journal_read.specs.scan.Windows.{IsAllCounted}
use Rattle.bx_journal.proofs.JudgeLemmas.{counted_fit}
use Rattle.bx_journal.proofs.recovery.finished.count_redo.Goals as goal

pub returns-clause-counted : goal.returns-clause-counted
returns-clause-counted g c =
    let there = subst (λ o. IfSome o (IsAllCounted (g.T.TextStore.faithful c.args.redo.now) (g.T.TextStore.text c.args.redo.now) true)) c.in-Some.is c.in-Ok.ensures.counted in
    record {
      text = there.text;
      is = there.is;
      counted = counted_fit there.text c.args.changes c.in-Some.text.counted.count c.in-Some.text.lines c.in-Some.text.counted.told there.counted (omega arith);
      many = there.counted.many;
    }
