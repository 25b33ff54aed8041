use Rattle.bx_run_report.proofs.Stopping.{showing_of_bytes}
use Rattle.bx_run_report.proofs.Failing.{failed_list}
use Rattle.bx_run_report.proofs.report.devices.show_text.Goals as goal

pub returns-in-Err-clause-cut : goal.returns-in-Err-clause-cut
returns-in-Err-clause-cut g c faithful image_faithful =
    (showing_of_bytes _ faithful _ c.args.steps _ c.in-Err.ensures.fault, c.in-Err.ensures.quiet, c.in-Err.ensures.stops faithful (λ _. image_faithful))

pub returns-in-Err-clause-failed : goal.returns-in-Err-clause-failed
returns-in-Err-clause-failed g c is = failed_list c.in-Err.fault _ _ _ _ c.in-Err.ensures.counts is
