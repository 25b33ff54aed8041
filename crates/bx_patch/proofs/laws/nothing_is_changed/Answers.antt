use Rattle.bx_patch.proofs.MakesLemmas.{nothing_is_changed}
use Rattle.bx_patch.proofs.laws.nothing_is_changed.Goals as goal

pub returns : goal.returns
returns g c = nothing_is_changed g.row.A.Denot
