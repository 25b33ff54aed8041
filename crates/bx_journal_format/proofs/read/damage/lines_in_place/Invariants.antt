use Rattle.std.proofs.Common.{◌≡◌, ℕ, ◌+◌, ◌≤◌, List, false, ◌++◌, length, take, drop}
use Rattle.bx_journal_format.specs.count.Tally.{IsTallied}
use Rattle.bx_journal_format.proofs.read.damage.lines_in_place.Given as goal

-- the lines that were taken are counted
abbrev pub invariant-loop-i : goal.invariant-loop-i
invariant-loop-i l = record {
  tallied : (front : List ℕ) (n : ℕ) → IsTallied false front l.fn.tally n → IsTallied false (front ++ take l.taken l.window) l.now (n + l.lines);
  left : l.rest ≡ drop l.taken l.window;
  within : l.taken ≤ length l.window;
  lines : l.lines ≤ l.taken;
  few : l.fn.tally.count ≤ 65535 → l.now.count ≤ 65535;
}

abbrev pub decreases-loop-i : goal.decreases-loop-i
decreases-loop-i l = length l.rest
