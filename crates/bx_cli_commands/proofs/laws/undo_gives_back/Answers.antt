use Rattle.bx_cli_commands.proofs.GivesBack.{gives_back}
use Rattle.bx_cli_commands.proofs.laws.undo_gives_back.Goals as goal

pub returns : goal.returns
returns g c = gives_back g.R.Read.remaining
