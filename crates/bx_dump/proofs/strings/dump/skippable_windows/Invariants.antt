use Rattle.std.proofs.Common.{◌-◌, ◌≤◌, length, take}
use Rattle.bx_dump.specs.private.Scan.{IsQuiet}
use Rattle.bx_dump.proofs.strings.dump.skippable_windows.Given as goal

abbrev pub invariant-loop-done : goal.invariant-loop-done
invariant-loop-done l = record {
  inside : l.done ≤ length l.bytes;
  quiet : IsQuiet l.least (take l.done l.bytes);
}

abbrev pub decreases-loop-done : goal.decreases-loop-done
decreases-loop-done l = length l.bytes - l.done
