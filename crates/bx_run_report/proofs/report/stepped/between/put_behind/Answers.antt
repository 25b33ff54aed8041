use Rattle.std.proofs.Common.{sym}
use Rattle.bx_run_model.proofs.Compared.{failed_behind}
use Rattle.bx_run_report.proofs.StepLemmas.{nothing_cut}
use Rattle.bx_run_report.proofs.StepsFailed.{failed_unstepped}
use Rattle.bx_run_report.proofs.report.stepped.between.put_behind.Goals as goal

pub returns-in-Err-clause-part : goal.returns-in-Err-clause-part
returns-in-Err-clause-part g c = λ faithful twin same.
    nothing_cut c.args.way _ _ _ c.in-Err.fault c.unchanged_by.result _ c.unchanged_by.ensures c.stopped_by.ensures

pub returns-in-Err-clause-failed : goal.returns-in-Err-clause-failed
returns-in-Err-clause-failed g c = λ twin is.
    failed_unstepped c.in-Err.fault _ _ _ c.in-Err.ensures.device.goes_on.counted (rw (c.stopped_by.ensures, c.unchanged_by.ensures) at is)

pub returns-in-Ok-clause-failed : goal.returns-in-Ok-clause-failed
returns-in-Ok-clause-failed g c = λ twin is.
    let said = c.put_between-outcome.ensures.failed in
    failed_behind g.D.Device said.0 _ _ _ _ _ said.1 (c.in-Ok.ensures.faithful twin) c.in-Ok.ensures.refused c.into_device.ensures.failures said.2 is
