use Rattle.std.proofs.Common.{◌≡◌, ◌≤◌, ◌+◌, ℕ, false, length}
use Rattle.bx_journal_model.specs.Looking.{OnlyReadsText}
use Rattle.bx_journal_image.specs.Entry.{BeginsBehind}
use Rattle.bx_journal_image.proofs.finding.entry.last_entry.Given as goal

-- no entry begins behind the windows so far
abbrev pub invariant-loop-end : goal.invariant-loop-end
invariant-loop-end g l =
    let T = g.T.TextStore in
    record {
      below : l.end ≤ l.len;
      none : T.faithful l.fn.store → (k : ℕ) → BeginsBehind (T.text l.fn.store) k → k + 7 ≤ l.end;
      window : length l.window ≡ 65536;
      reads : OnlyReadsText T false l.fn.store l.store;
    }

abbrev pub decreases-loop-end : goal.decreases-loop-end
decreases-loop-end g l = l.end
