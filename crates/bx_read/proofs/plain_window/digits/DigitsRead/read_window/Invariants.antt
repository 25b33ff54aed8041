use Rattle.std.proofs.Common.{◌≤◌, ◌+◌, ◌-◌, ◌++◌, List, ℕ, length, take}
use Rattle.bx_read.specs.PlainWindow.{HasReadPlain}
use Rattle.bx_read.specs.private.PlainWindow.{plain_view}
use Rattle.bx_read.proofs.plain_window.digits.DigitsRead.read_window.Given as goal

-- the bytes so far were read
abbrev pub invariant-loop-at : goal.invariant-loop-at
invariant-loop-at g l = record {
  within : l.at ≤ length l.window;
  few : l.self.passed ≤ l.fn.self.passed + l.at;
  read : (text : List ℕ) → HasReadPlain text (plain_view l.fn.self) → HasReadPlain (text ++ take l.at l.window) (plain_view l.self);
}

abbrev pub decreases-loop-at : goal.decreases-loop-at
decreases-loop-at g l = length l.window - l.at
