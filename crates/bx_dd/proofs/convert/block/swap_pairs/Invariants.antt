use Rattle.std.proofs.Common.{◌≡◌, ◌*◌, ◌++◌, take, drop}
use Rattle.bx_dd.specs.Output.{swapped}
use Rattle.bx_dd.proofs.convert.block.swap_pairs.Given as goal

-- the pairs so far changed places
abbrev pub invariant-loop-i : goal.invariant-loop-i
invariant-loop-i l = l.bytes ≡ swapped (take (2 * l.i) l.initial.bytes) ++ drop (2 * l.i) l.initial.bytes
