use Rattle.bx_run.proofs.Inputs.{edit_is_put}
use Rattle.bx_run.proofs.laws.edit_is_put.Goals as goal

pub returns : goal.returns
returns g c = edit_is_put g.R.Read.remaining
