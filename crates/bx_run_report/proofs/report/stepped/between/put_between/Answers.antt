use Rattle.bx_patch.specs.Diff.{fails}
use Rattle.bx_run_model.specs.Failures.{of_behind}
use Rattle.bx_run_report.proofs.StepsFailed.{failed_none, failed_saying, failed_there}
use Rattle.bx_run_report.proofs.report.stepped.between.put_between.Goals as goal

pub returns-in-Err-clause-failed : goal.returns-in-Err-clause-failed
returns-in-Err-clause-failed g c = (
  fails (of_behind c.args.way) c.compare.result,
  c.compare.ensures.behind,
  (λ is calm. failed_there c.args.way c.compare.result _ _ c.compare.ensures.there.goes_on.counted
      (rw c.in-Err.is (failed_saying c.in-Err.fault (rw c.stopped_by.ensures at is))) calm),
)

pub returns-in-Ok-clause-failed : goal.returns-in-Ok-clause-failed
returns-in-Ok-clause-failed g c = (
  fails (of_behind c.args.way) c.compare.result,
  c.compare.ensures.behind,
  (λ is calm. absurd (failed_none is)),
)
