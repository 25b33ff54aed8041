use Rattle.std.proofs.Common.{◌∙◌, subst, arith}
use Rattle.std.specs.Prelude.{IfSome}
use Rattle.bx_journal_read.specs.scan.Recovery.{IsTornFront}
use Rattle.bx_journal_read.proofs.UnfitLemmas.{tail_unfit}
use Rattle.bx_journal_read.proofs.scan.unfit.tail_line.Goals as goal

pub returns-clause-line : goal.returns-clause-line
returns-clause-line g c =
    let T = g.T.TextStore in
    let first = c.in_ok-walked.ensures.reads in
    let second = c.in_ok-found.ensures.reads in
    let front = subst (λ o. IfSome o (IsTornFront (T.faithful c.walk_windows.new.store) (T.text c.walk_windows.new.store) c.args.len)) c.in-Some-found.is c.in_ok-found.ensures.found in
    tail_unfit (T.faithful c.args.store.now) (T.faithful c.walk_windows.new.store) (T.faithful c.find_end.new.store) (T.text c.args.store.now) (T.text c.walk_windows.new.store) (T.text c.find_end.new.store)
    c.args.len c.in_ok-before.before c.args.changes c.in-Some-found.torn
    first.goes_on.faith.1 (λ h. second.goes_on.faith.1 (first.goes_on.faith.1 h)) first.text (λ h. second.text (first.goes_on.faith.1 h) ∙ first.text h)
    c.requires.long (omega (arith, c.if-torn-len.false)) front c.in_ok-before.ensures.lines
