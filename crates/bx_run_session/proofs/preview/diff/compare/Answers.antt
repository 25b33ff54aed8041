use Rattle.std.proofs.Common.{arith}
use Rattle.bx_run_model.proofs.Compared.{failed_comparison}
use Rattle.bx_run_session.proofs.preview.diff.compare.Goals as goal

pub returns-clause-failed : goal.returns-clause-failed
returns-clause-failed g c old is =
    let said = c.write_patch-outcome.ensures in
    let some = failed_comparison c.write_patch-outcome.result _ _ _ _ said.old.goes_on.counted said.new.goes_on.counted is in
    let counts = c.close_both.ensures.counted old in
    omega (arith, some, counts)
