use Rattle.bx_patch.proofs.LeastLemmas.{patch_is_least}
use Rattle.bx_patch.proofs.laws.patch_is_least.Goals as goal

pub returns : goal.returns
returns c = patch_is_least
