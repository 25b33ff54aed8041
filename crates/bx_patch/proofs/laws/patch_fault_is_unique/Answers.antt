use Rattle.bx_patch.proofs.CutLemmas.{patch_fault_is_unique}
use Rattle.bx_patch.proofs.laws.patch_fault_is_unique.Goals as goal

pub returns : goal.returns
returns c = patch_fault_is_unique
