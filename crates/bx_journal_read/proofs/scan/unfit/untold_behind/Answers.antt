use Rattle.std.proofs.Common.{◌∙◌, true, false, subst}
use Rattle.std.specs.Prelude.{IfSome}
use Rattle.bx_journal_read.specs.scan.Windows.{IsFrontCounted}
use Rattle.bx_journal_read.proofs.UnfitLemmas.{untold_unfit}
use Rattle.bx_journal_read.proofs.scan.unfit.untold_behind.Goals as goal

pub returns-then-is_untold-clause-line : goal.returns-then-is_untold-clause-line
returns-then-is_untold-clause-line g c =
    let T = g.T.TextStore in
    let first = c.in_ok-all.ensures.reads in
    let second = c.in_ok-before.ensures.reads in
    let all = subst (λ o. IfSome o (IsFrontCounted (T.faithful c.args.store.now) (T.text c.args.store.now) false)) c.in-Some.is c.in_ok-all.ensures.counted in
    let before = subst (λ o. IfSome o (IsFrontCounted (T.faithful c.count_windows.new.store) (T.text c.count_windows.new.store) true)) c.in-Some-before.is c.in_ok-before.ensures.counted in
    let behind = subst (λ o. IfSome o (IsFrontCounted (T.faithful c.count_windows-2.new.store) (T.text c.count_windows-2.new.store) false)) c.in-Some-behind.is c.in_ok-behind.ensures.counted in
    untold_unfit (T.faithful c.args.store.now) (T.text c.args.store.now) c.args.len c.args.changes c.requires.long (T.faithful c.count_windows.new.store) (T.faithful c.count_windows-2.new.store)
    (T.text c.count_windows.new.store) (T.text c.count_windows-2.new.store) c.in-Some.whole c.in-Some-before.front c.in-Some-behind.next
    first.goes_on.faith.1 (λ h. second.goes_on.faith.1 (first.goes_on.faith.1 h)) first.text (λ h. second.text (first.goes_on.faith.1 h) ∙ first.text h)
    (c.is_untold.ensures c.if-is_untold.true) all before behind
