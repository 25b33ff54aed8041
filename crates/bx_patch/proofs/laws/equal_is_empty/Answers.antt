use Rattle.bx_patch.proofs.EqualLemmas.{equal_is_empty}
use Rattle.bx_patch.proofs.laws.equal_is_empty.Goals as goal

pub returns : goal.returns
returns c = equal_is_empty
