use Rattle.bx_run_report.proofs.Held.{hidden_named}
use Rattle.bx_run_report.proofs.Failing.{failed_closed}
use Rattle.bx_run_report.proofs.report.listed.log_with_ranges.Goals as goal

pub returns-clause-rows : goal.returns-clause-rows
returns-clause-rows g c old = rw c.close.ensures.outcome (c.ranges_on-seen.ensures.rows _ _ _ (c.in-Ok.ensures.held old))

pub returns-clause-stops : goal.returns-clause-stops
returns-clause-stops g c old =
    rw c.close.ensures.outcome (hidden_named c.args.names.now _ (g.W.World.state c.args.world.now) _ _ _ _
    (c.ranges_on-seen.ensures.stops _ _ _ (c.in-Ok.ensures.held old)))

pub returns-clause-failed : goal.returns-clause-failed
returns-clause-failed g c old =
    let mid = c.into_devices.ensures.faith.1 old in
    failed_closed c.ranges_on-seen.result.outcome c.close.result _ _ _ _ c.close.ensures.outcome (c.in-Ok.ensures.calm old) (c.close.ensures.counted mid)
    c.ranges_on-seen.ensures.failed
