use Rattle.std.proofs.Common.{◌≡◌, ◌*◌, ◌≤◌, length, drop}
use Rattle.bx_dump.specs.Od.{widest}
use Rattle.bx_dump.proofs.od.columns.widest.Given as goal

-- the widest of the types from place `at` on
abbrev pub invariant-loop-at : goal.invariant-loop-at
invariant-loop-at l = record {
  within : l.at ≤ length l.columns;
  value : l.wide ≡ widest l.cols (drop l.at l.columns);
  most : l.wide ≤ 5 * l.cols;
}

abbrev pub decreases-loop-at : goal.decreases-loop-at
decreases-loop-at l = l.at
