use Rattle.std.specs.List.{AllAdjacentBelow}
use Rattle.bx_patch.specs.private.preview.Order.{IsNotBefore}
use Rattle.bx_patch.proofs.preview.order.are_ordered.Given as goal

-- no piece so far is before the one in front of it
abbrev pub invariant-loop-i : goal.invariant-loop-i
invariant-loop-i g l = record { ordered : AllAdjacentBelow (λ x y. IsNotBefore y x) l.pieces l.i }
