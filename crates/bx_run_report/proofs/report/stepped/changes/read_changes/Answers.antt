use Rattle.std.proofs.Common.{arith}
use Rattle.bx_run_report.proofs.Failing.{failed_one}
use Rattle.bx_run_report.proofs.StepsRead.{kept_from, read_stops}
use Rattle.bx_run_report.proofs.report.stepped.changes.read_changes.Goals as goal

pub returns-in-Err-clause-fails : goal.returns-in-Err-clause-fails
returns-in-Err-clause-fails g c faithful has = read_stops _ _ _ _ faithful has c.in-Err.ensures.fault

pub restoring-requires-clause-kept : goal.restoring-requires-clause-kept
restoring-requires-clause-kept g c = kept_from _ _ _ _ c.in-Ok.ensures.read

pub returns-in-Err-clause-failed : goal.returns-in-Err-clause-failed
returns-in-Err-clause-failed g c is = let some = failed_one c.in-Err.fault _ _ _ _ c.in-Err.ensures.looks.counts is in omega (arith, some)
