use Rattle.std.proofs.Common.{◌≡◌, ◌+◌, ◌-◌, ◌*◌, ◌≤◌, ℕ, List, length, take}
use Rattle.bx_dump.specs.private.Scan.{scan_text, scan_run, IsKept, pending}
use Rattle.bx_dump_columns.specs.Places.{cost_of}
use Rattle.bx_dump.proofs.strings.dump.Runs.put.Given as goal

-- what is known of the bytes so far is put
abbrev pub invariant-loop-done : goal.invariant-loop-done
invariant-loop-done l = record {
  inside : l.done ≤ length l.bytes;
  least : l.self.least ≡ l.initial.self.least;
  offsets : l.self.offsets ≡ l.initial.self.offsets;
  size : length l.self.kept ≡ 4096;
  within : l.self.count ≤ l.self.least;
  cost : l.used + pending l.self.least l.self.count ≤ 4096 + cost_of l.initial.self.offsets * l.done;
  text : (run : List ℕ) → IsKept l.initial.self.least l.initial.self.count l.initial.self.kept run →
      take l.used l.page ≡ scan_text l.initial.self.least l.initial.self.offsets l.at run (take l.done l.bytes);
  kept : (run : List ℕ) → IsKept l.initial.self.least l.initial.self.count l.initial.self.kept run →
      IsKept l.self.least l.self.count l.self.kept (scan_run run (take l.done l.bytes));
}

abbrev pub decreases-loop-done : goal.decreases-loop-done
decreases-loop-done l = length l.bytes - l.done
