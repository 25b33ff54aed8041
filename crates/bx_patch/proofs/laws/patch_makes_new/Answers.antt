use Rattle.bx_patch.proofs.MakesLemmas.{patch_makes_new}
use Rattle.bx_patch.proofs.laws.patch_makes_new.Goals as goal

pub returns : goal.returns
returns g c = patch_makes_new g.row.A.Denot
