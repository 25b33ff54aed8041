use Rattle.bx_patch.proofs.OtherLemmas.{other_disagrees}
use Rattle.bx_patch.proofs.laws.other_disagrees.Goals as goal

pub returns : goal.returns
returns c = other_disagrees
