use Rattle.bx_patch.proofs.MakesLemmas.{patch_tells_length}
use Rattle.bx_patch.proofs.laws.patch_tells_length.Goals as goal

pub returns : goal.returns
returns g c = patch_tells_length g.row.A.Denot
