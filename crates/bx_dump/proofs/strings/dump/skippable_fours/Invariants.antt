use Rattle.std.proofs.Common.{◌≡◌, ◌-◌, ◌<◌, ◌≤◌, ℕ, length, false}
use Rattle.bx_dump_columns.specs.Printing.{four_print}
use Rattle.bx_dump.proofs.strings.dump.skippable_fours.Given as goal

abbrev pub invariant-loop-done : goal.invariant-loop-done
invariant-loop-done l = record {
  inside : l.done ≤ length l.bytes;
  none : (k : ℕ) → k < l.done → four_print l.bytes k ≡ false;
}

abbrev pub decreases-loop-done : goal.decreases-loop-done
decreases-loop-done l = length l.bytes - l.done
