use Rattle.bx_cli_commands.proofs.GivesBack.{redo_gives_back}
use Rattle.bx_cli_commands.proofs.laws.redo_gives_back.Goals as goal

pub returns : goal.returns
returns g c = redo_gives_back g.row.A.Denot g.R.Read.remaining
