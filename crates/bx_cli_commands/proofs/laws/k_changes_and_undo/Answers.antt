use Rattle.bx_cli_commands.proofs.GivesBack.{k_changes}
use Rattle.bx_cli_commands.proofs.laws.k_changes_and_undo.Goals as goal

pub returns : goal.returns
returns g c = k_changes g.D.Device g.T.TextStore g.R.Read.remaining
