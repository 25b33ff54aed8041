use Rattle.bx_patch.proofs.CutLemmas.{front_of_any_is_refused}
use Rattle.bx_patch.proofs.laws.front_of_any_is_refused.Goals as goal

pub returns : goal.returns
returns c = front_of_any_is_refused
