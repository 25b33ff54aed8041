use Rattle.bx_patch.proofs.MakesLemmas.{front_is_refused}
use Rattle.bx_patch.proofs.laws.front_is_refused.Goals as goal

pub returns : goal.returns
returns c = front_is_refused
