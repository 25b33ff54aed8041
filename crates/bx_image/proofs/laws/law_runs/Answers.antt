use Rattle.bx_image.proofs.Maximal.{maximal_runs_same}
use Rattle.bx_image.proofs.Records.{saved-maximal}
use Rattle.bx_image.proofs.laws.law_runs.Goals as goal

pub returns-clause-one : goal.returns-clause-one
returns-clause-one g c = maximal_runs_same

pub returns-clause-saved : goal.returns-clause-saved
returns-clause-saved g c = saved-maximal
