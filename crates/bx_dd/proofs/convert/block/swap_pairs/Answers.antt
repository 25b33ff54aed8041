use Rattle.std.proofs.Common.{refl}
use Rattle.bx_dd.specs.Output.{swapped}
use Rattle.bx_dd.proofs.convert.block.swap_pairs.Goals as goal

pub loop-i-init : goal.loop-i-init
unfolding swapped
loop-i-init c = refl
