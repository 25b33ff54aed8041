use Rattle.std.proofs.Common.{◌≡◌, ◌≤◌, length}
use Rattle.bx_read.specs.Text.{gathered, piece_then}
use Rattle.bx_read.specs.Lines.{coming}
use Rattle.bx_read.specs.private.NextLine.{joined_of}
use Rattle.bx_read.proofs.runs.grow.Given as goal

abbrev pub decreases-loop-line : goal.decreases-loop-line
decreases-loop-line g l = length (coming l.lines)

-- the run so far, with the lines to come, gives what it gave at first
abbrev pub invariant-loop-line : goal.invariant-loop-line
invariant-loop-line g l = record {
  run : joined_of (piece_then (l.at, l.fn.bytes.items) (gathered (coming l.fn.lines))) ≡ joined_of (piece_then (l.at, l.bytes.items) (gathered (coming l.lines)));
  fewer : length (coming l.lines) ≤ length (coming l.fn.lines);
}
