use Rattle.bx_dump.proofs.LawLemmas.{value_is_sum}
use Rattle.bx_dump.proofs.laws.value_is_sum.Goals as goal

pub returns : goal.returns
returns c = value_is_sum
