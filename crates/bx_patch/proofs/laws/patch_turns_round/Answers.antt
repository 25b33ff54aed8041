use Rattle.bx_patch.proofs.OrderLemmas.{patch_turns_round}
use Rattle.bx_patch.proofs.laws.patch_turns_round.Goals as goal

pub returns : goal.returns
returns c = patch_turns_round
