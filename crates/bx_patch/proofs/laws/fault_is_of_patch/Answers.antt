use Rattle.bx_patch.proofs.CutLemmas.{fault_is_of_patch}
use Rattle.bx_patch.proofs.laws.fault_is_of_patch.Goals as goal

pub returns : goal.returns
returns c = fault_is_of_patch
