use Rattle.bx_run_report.proofs.Looking.{log_of}
use Rattle.bx_run_report.proofs.Failing.{failed_session}
use Rattle.bx_run_report.proofs.report.devices.log_in.Goals as goal

pub returns-in-Ok-log_text-clause-log : goal.returns-in-Ok-log_text-clause-log
returns-in-Ok-log_text-clause-log g c faithful has =
    log_of _ c.in-Ok.rows.items _ _ has (c.in-Ok.ensures.rows faithful) (rw c.as_slice.ensures.value at c.in-Ok-log_text.ensures.text)

pub returns-in-Err-clause-failed : goal.returns-in-Err-clause-failed
returns-in-Err-clause-failed g c is = failed_session c.in-Err.fault _ _ _ _ _ _ c.in-Err.ensures.safe.counts is
