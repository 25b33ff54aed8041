use Rattle.bx_patch.proofs.MakesLemmas.{failed_is_refused}
use Rattle.bx_patch.proofs.laws.failed_is_refused.Goals as goal

pub returns : goal.returns
returns c = failed_is_refused
