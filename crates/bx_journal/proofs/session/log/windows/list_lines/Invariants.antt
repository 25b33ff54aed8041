use Rattle.std.proofs.Common.{◌≡◌, ◌≤◌, List, ℕ, ◌++◌, length, take, drop}
use Rattle.bx_journal.specs.private.Rows.{IsListed}
use Rattle.bx_journal.proofs.session.log.windows.list_lines.Given as goal

-- the lines that were taken have their rows
abbrev pub invariant-loop-i : goal.invariant-loop-i
invariant-loop-i g l = record {
  listed : (front : List ℕ) → IsListed front l.fn.from l.fn.rows.items → IsListed (front ++ take l.taken l.window) l.sums l.rows.items;
  left : l.rest ≡ drop l.taken l.window;
  within : l.taken ≤ length l.window;
}

abbrev pub decreases-loop-i : goal.decreases-loop-i
decreases-loop-i g l = length l.rest
