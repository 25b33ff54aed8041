use Rattle.std.proofs.Common.{◌≡◌, ◌≤◌, length, drop}
use Rattle.bx_dump_columns.specs.Values.{value_of}
use Rattle.bx_dump_columns.proofs.od.values.value_of.Given as goal

-- the value of the bytes from place `at` on
abbrev pub invariant-loop-at : goal.invariant-loop-at
invariant-loop-at l = record {
  within : l.at ≤ length l.bytes;
  value : l.value ≡ value_of (drop l.at l.bytes);
}

abbrev pub decreases-loop-at : goal.decreases-loop-at
decreases-loop-at l = l.at
