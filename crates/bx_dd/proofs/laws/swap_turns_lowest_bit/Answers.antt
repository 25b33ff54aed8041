use Rattle.bx_dd.proofs.LawLemmas.{swap_turns}
use Rattle.bx_dd.proofs.laws.swap_turns_lowest_bit.Goals as goal

pub returns : goal.returns
returns c = swap_turns
