use Rattle.bx_patch.proofs.MakesLemmas.{patch_is_strict}
use Rattle.bx_patch.proofs.laws.patch_is_strict.Goals as goal

pub returns : goal.returns
returns c = patch_is_strict
