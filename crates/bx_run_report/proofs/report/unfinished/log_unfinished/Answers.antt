use Rattle.std.proofs.Common.{inr}
use Rattle.std.proofs.lemmas.Result.{IfErr-weaker}
use Rattle.bx_run_report.proofs.Failing.{failed_closed}
use Rattle.bx_run_report.proofs.report.unfinished.log_unfinished.Goals as goal

pub returns-clause-lists : goal.returns-clause-lists
returns-clause-lists g c old = rw c.close.ensures.outcome (c.front_on-seen.ensures.lists _ _ _ (c.in-Ok.ensures.held old))

pub returns-clause-stops : goal.returns-clause-stops
returns-clause-stops g c old =
    rw c.close.ensures.outcome (IfErr-weaker _ _ _ (λ u is. inr is) (c.front_on-seen.ensures.cut _ _ _ (c.in-Ok.ensures.held old)))

pub returns-clause-failed : goal.returns-clause-failed
returns-clause-failed g c old =
    let mid = c.into_devices.ensures.faith.1 old in
    failed_closed c.front_on-seen.result.outcome c.close.result _ _ _ _ c.close.ensures.outcome (c.in-Ok.ensures.calm old) (c.close.ensures.counted mid)
    c.front_on-seen.ensures.failed
