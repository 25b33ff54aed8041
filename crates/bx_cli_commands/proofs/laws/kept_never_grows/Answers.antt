use Rattle.bx_cli_commands.proofs.Within.{never_grows}
use Rattle.bx_cli_commands.proofs.laws.kept_never_grows.Goals as goal

pub returns : goal.returns
returns g c = λ old kept reply after step. never_grows old kept reply after step
