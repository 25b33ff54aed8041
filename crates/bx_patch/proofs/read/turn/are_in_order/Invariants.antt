use Rattle.std.proofs.Common.{drop}
use Rattle.std.specs.Prelude.{◌↔◌}
use Rattle.bx_read.specs.Text.{contents}
use Rattle.bx_patch.specs.Patch.{AreInOrder}
use Rattle.bx_patch.proofs.read.turn.are_in_order.Given as goal

abbrev pub invariant-loop-i : goal.invariant-loop-i
invariant-loop-i g l = AreInOrder l.end (contents (drop l.i l.pieces)) ↔ AreInOrder 0 (contents l.pieces)
