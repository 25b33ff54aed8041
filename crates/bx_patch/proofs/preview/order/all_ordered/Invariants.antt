use Rattle.std.specs.List.{AllWithin}
use Rattle.bx_patch.specs.private.preview.Order.{AreByPlace}
use Rattle.bx_patch.proofs.preview.order.all_ordered.Given as goal

-- the pieces of the changes so far are in order
abbrev pub invariant-loop-change : goal.invariant-loop-change
invariant-loop-change g l = record { ordered : AllWithin (λ c. AreByPlace c.writes) l.changes 0 l.change-index }
