use Rattle.std.proofs.Common.{◌≡◌, ◌≤◌, List, ℕ, ◌++◌, length, take, drop}
use Rattle.bx_journal_format.specs.count.Marks.{IsMarked}
use Rattle.bx_journal_format.proofs.read.marks.mark_lines.Given as goal

-- the lines that were taken are marked
abbrev pub invariant-loop-i : goal.invariant-loop-i
invariant-loop-i g l = record {
  leads : (front : List ℕ) → length front ≡ l.at → IsMarked front l.fn.from l.fn.marks.items → IsMarked (front ++ take l.taken l.window) l.marking l.marks.items;
  left : l.rest ≡ drop l.taken l.window;
  within : l.taken ≤ length l.window;
}

abbrev pub decreases-loop-i : goal.decreases-loop-i
decreases-loop-i g l = length l.rest
