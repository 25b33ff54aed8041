use Rattle.bx_patch.proofs.MakesLemmas.{patch_reversed}
use Rattle.bx_patch.proofs.laws.patch_reversed.Goals as goal

pub returns : goal.returns
returns g c = patch_reversed g.row.A.Denot
