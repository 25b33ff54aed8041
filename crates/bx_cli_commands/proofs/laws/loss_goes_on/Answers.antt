use Rattle.bx_cli_commands.proofs.LossGoesOn.{loss_goes_on}
use Rattle.bx_cli_commands.proofs.laws.loss_goes_on.Goals as goal

pub returns : goal.returns
returns g c = loss_goes_on g.D.Device g.T.TextStore _ g.row.A.Denot g.R.Read.remaining
