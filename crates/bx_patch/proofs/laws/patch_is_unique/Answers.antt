use Rattle.bx_patch.proofs.CutLemmas.{one_request}
use Rattle.bx_patch.proofs.laws.patch_is_unique.Goals as goal

pub returns : goal.returns
returns c = one_request
