use Rattle.std.proofs.Common.{◌+◌, ◌≤◌, length}
use Rattle.bx_patch.specs.Read.{asked_of}
use Rattle.bx_patch.specs.private.Read.{HasReadLines}
use Rattle.bx_patch.proofs.read.take_lines.Given as goal

abbrev pub invariant-loop-line : goal.invariant-loop-line
invariant-loop-line g l = record { read : HasReadLines l.text l.rest l.count (asked_of l.patch); small : l.count + length l.rest ≤ length l.text }

abbrev pub decreases-loop-line : goal.decreases-loop-line
decreases-loop-line g l = length l.rest
