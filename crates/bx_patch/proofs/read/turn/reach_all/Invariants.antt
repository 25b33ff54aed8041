use Rattle.std.proofs.Common.{◌≡◌, ◌≤◌, length, drop}
use Rattle.bx_read.specs.Text.{contents}
use Rattle.bx_patch.specs.private.Turn.{reach_each}
use Rattle.bx_patch.proofs.read.turn.reach_all.Given as goal

abbrev pub invariant-loop-i : goal.invariant-loop-i
invariant-loop-i g l = record {
  each : reach_each l.below (contents (drop l.run.next l.outer), l.run.end) (contents (drop l.i l.inner)) ≡ reach_each l.below (contents l.outer, 0) (contents l.inner);
  within : l.run.next ≤ length l.outer;
}
