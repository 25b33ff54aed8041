use Rattle.std.proofs.Common.{◌-◌, ◌≤◌, length}
use Rattle.std.specs.Prelude.{vec_capacity}
use Rattle.bx_journal_format.proofs.StretchLemmas.{HasParts}
use Rattle.bx_journal_format.proofs.read.parts.parts_in.Given as goal

-- `taken` bytes were taken, and at most one part for each
abbrev pub invariant-loop-window : goal.invariant-loop-window
invariant-loop-window g l = record {
  has : HasParts l.len l.fn.window l.window l.parts.items l.taken l.used;
  few : length l.parts.items ≤ l.taken;
  room : vec_capacity l.fn.parts ≤ vec_capacity l.parts;
}

abbrev pub decreases-loop-window : goal.decreases-loop-window
decreases-loop-window g l = length l.window - l.taken
