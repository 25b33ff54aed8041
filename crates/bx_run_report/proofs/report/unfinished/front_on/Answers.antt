use Rattle.std.proofs.Common.{arith, subst}
use Rattle.bx_run_report.specs.report.Unfinished.{IsFrontCut, ListsFront, unseen_by}
use Rattle.bx_run_report.proofs.FrontRows.{front_cut}
use Rattle.bx_run_report.proofs.Failing.{failed_front}
use Rattle.bx_run_report.proofs.report.unfinished.front_on.Goals as goal

pub returns-in-Ok-clause-lists : goal.returns-in-Ok-clause-lists
returns-in-Ok-clause-lists g c x text redo holds =
    subst (λ t. ListsFront c.args.verbose t (g.O.Write.contents c.args.out.now) (g.O.Write.contents c.list_front.new.out)) holds.journal_is
    (c.in-Ok.ensures.lists holds.journal_faithful)

pub returns-in-Err-clause-cut : goal.returns-in-Err-clause-cut
returns-in-Err-clause-cut g c x text redo holds =
    let w0 = g.O.Write.contents c.args.out.now in
    let w1 = g.O.Write.contents c.list_front.new.out in
    rw c.unseen_by.ensures (subst (λ t. IsFrontCut c.args.verbose t w0 w1 (unseen_by c.in-Err.fault)) holds.journal_is
    (front_cut (g.T.TextStore.faithful c.args.devices.journal) holds.journal_faithful c.args.verbose (g.T.TextStore.text c.args.devices.journal) w0 w1 c.in-Err.fault
    c.in-Err.ensures.fault (c.in-Err.ensures.stops holds.journal_faithful)))

pub returns-in-Err-clause-failed : goal.returns-in-Err-clause-failed
returns-in-Err-clause-failed g c is =
    let some = failed_front c.in-Err.fault _ _ _ _ c.in-Err.ensures.counts (rw c.unseen_by.ensures at is) in omega (arith, some)
