use Rattle.bx_run_report.proofs.Stopping.{listing_of_bytes}
use Rattle.std.proofs.Common.{arith}
use Rattle.bx_run_report.proofs.Failing.{failed_list}
use Rattle.bx_run_report.proofs.report.devices.list_on.Goals as goal

pub returns-in-Err-clause-cut : goal.returns-in-Err-clause-cut
returns-in-Err-clause-cut g c faithful = (listing_of_bytes _ faithful _ _ c.in-Err.ensures.fault, c.in-Err.ensures.stops faithful)

pub returns-in-Err-clause-failed : goal.returns-in-Err-clause-failed
returns-in-Err-clause-failed g c is = let some = failed_list c.in-Err.fault _ _ _ _ c.in-Err.ensures.counts is in omega (arith, some)
