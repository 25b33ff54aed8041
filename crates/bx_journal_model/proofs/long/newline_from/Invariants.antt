use Rattle.std.proofs.Common.{◌≡◌, ◌-◌, ◌≤◌, length, false}
use Rattle.bx_journal_model.specs.Long.{IsPlainTo}
use Rattle.bx_journal_model.specs.Looking.{OnlyReadsText}
use Rattle.bx_journal_model.proofs.long.newline_from.Given as goal

-- what was looked at has no newline
abbrev pub invariant-loop-at : goal.invariant-loop-at
invariant-loop-at g l =
    let T = g.T.TextStore in
    record {
      below : l.at ≤ l.len;
      plain : IsPlainTo (T.faithful l.fn.store) (T.text l.fn.store) l.from l.at;
      window : length l.window ≡ length l.fn.window;
      reads : OnlyReadsText T false l.fn.store l.store;
    }

abbrev pub decreases-loop-at : goal.decreases-loop-at
decreases-loop-at g l = l.len - l.at
