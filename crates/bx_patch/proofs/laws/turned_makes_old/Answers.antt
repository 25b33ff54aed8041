use Rattle.bx_patch.proofs.TurnLemmas.{turned_makes_old}
use Rattle.bx_patch.proofs.laws.turned_makes_old.Goals as goal

pub returns : goal.returns
returns g c = turned_makes_old g.row.A.Denot
