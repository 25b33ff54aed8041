use Rattle.std.proofs.Common.{◌≡◌, ◌-◌, ◌≤◌, length, drop}
use Rattle.bx_read.specs.Text.{contents}
use Rattle.bx_patch.specs.private.Turn.{run_from}
use Rattle.bx_patch.proofs.read.turn.run_on.Given as goal

abbrev pub invariant-loop-next : goal.invariant-loop-next
invariant-loop-next g l = record {
  run : run_from (contents (drop l.next l.pieces)) l.end ≡ run_from (contents (drop l.fn.from.next l.pieces)) l.fn.from.end;
  within : l.next ≤ length l.pieces;
}

abbrev pub decreases-loop-next : goal.decreases-loop-next
decreases-loop-next g l = length l.pieces - l.next
