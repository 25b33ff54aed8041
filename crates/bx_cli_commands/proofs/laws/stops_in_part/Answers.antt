use Rattle.bx_cli_commands.proofs.Stopped.{ends_in_part}
use Rattle.bx_cli_commands.proofs.laws.stops_in_part.Goals as goal

pub returns : goal.returns
returns g c = ends_in_part g.R.Read.remaining
