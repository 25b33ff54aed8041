use Rattle.bx_cli_commands.proofs.Unfailed.{unfailed_runs}
use Rattle.bx_cli_commands.proofs.laws.unfailed_runs.Goals as goal

pub returns : goal.returns
returns g c = unfailed_runs g.R.Read.remaining
