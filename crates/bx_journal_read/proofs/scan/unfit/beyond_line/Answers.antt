use Rattle.std.proofs.Common.{true, subst, arith}
use Rattle.std.specs.Prelude.{IfSome}
use Rattle.bx_journal_read.specs.scan.Windows.{IsFrontCounted}
use Rattle.bx_journal_read.proofs.UnfitLemmas.{beyond_unfit}
use Rattle.bx_journal_read.proofs.scan.unfit.beyond_line.Goals as goal

pub returns-then-is_beyond-clause-line : goal.returns-then-is_beyond-clause-line
returns-then-is_beyond-clause-line g c =
    let T = g.T.TextStore in
    let first = c.in_ok-all.ensures.reads in
    let all = subst (λ o. IfSome o (IsFrontCounted (T.faithful c.args.store.now) (T.text c.args.store.now) true)) c.in-Some.is c.in_ok-all.ensures.counted in
    let before = subst (λ o. IfSome o (IsFrontCounted (T.faithful c.count_windows.new.store) (T.text c.count_windows.new.store) true)) c.in-Some-before.is c.in_ok-before.ensures.counted in
    beyond_unfit (T.faithful c.args.store.now) (T.text c.args.store.now) c.args.len c.args.changes c.requires.long (T.faithful c.count_windows.new.store) (T.text c.count_windows.new.store) _
    c.in-Some.whole c.in-Some-before.front first.goes_on.faith.1 first.text (omega (arith, c.requires.few)) (c.is_beyond.ensures c.if-is_beyond.true) all before
