use Rattle.std.proofs.lemmas.Result.{IfErr-weaker}
use Rattle.bx_run_report.proofs.Looking.{not_seen}
use Rattle.bx_run_report.proofs.Failing.{failed_closed}
use Rattle.bx_run_report.proofs.report.listed.log.Goals as goal

pub returns-clause-log : goal.returns-clause-log
returns-clause-log g c old = rw c.close.ensures.outcome (c.log_on-seen.ensures.log _ _ _ (c.in-Ok.ensures.held old))

pub returns-clause-why : goal.returns-clause-why
returns-clause-why g c old =
    rw c.close.ensures.outcome (IfErr-weaker _ _ _ (not_seen c.args.names.now _ (g.W.World.state c.args.world.now))
    (c.log_on-seen.ensures.hides _ _ _ (c.in-Ok.ensures.held old)))

pub returns-clause-failed : goal.returns-clause-failed
returns-clause-failed g c old =
    let mid = c.into_devices.ensures.faith.1 old in
    failed_closed c.log_on-seen.result.outcome c.close.result _ _ _ _ c.close.ensures.outcome (c.in-Ok.ensures.calm old) (c.close.ensures.counted mid)
    c.log_on-seen.ensures.failed
