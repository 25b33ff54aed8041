use Rattle.std.proofs.Common.{◌≡◌, ℕ, ◌+◌, ◌-◌, ◌≤◌, ◌++◌, List, length, drop}
use Rattle.bx_journal_format.specs.Text.{Entry}
use Rattle.bx_journal_format.specs.read.Lines.{IsReadAt, IsReadUpTo}
use Rattle.bx_journal_format.proofs.read.lines.read_lines.Given as goal

-- the bytes of the window up to `from` are read, and the rest of it is as it was
abbrev pub invariant-loop-i : goal.invariant-loop-i
invariant-loop-i g l = record {
  read : (text : List ℕ) (older : List Entry) → IsReadUpTo text older l.front l.fn.read → IsReadAt (text ++ l.fn.window) older l.entries.items l.stage (l.fn.read.at + l.from);
  left : drop l.from l.window ≡ drop l.from l.fn.window;
  within : l.from ≤ length l.fn.window;
  same : length l.window ≡ length l.fn.window;
}

abbrev pub decreases-loop-i : goal.decreases-loop-i
decreases-loop-i g l = length l.window - l.from
