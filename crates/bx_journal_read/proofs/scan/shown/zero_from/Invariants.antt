use Rattle.std.proofs.Common.{◌≡◌, ◌+◌, ◌-◌, ◌≤◌, length, drop, false}
use Rattle.bx_journal_format.specs.Shown.{before_zero}
use Rattle.bx_journal_model.specs.Looking.{OnlyReadsText}
use Rattle.bx_journal_read.proofs.scan.shown.zero_from.Given as goal

-- the first zero from the place on stands no sooner
abbrev pub invariant-loop-at : goal.invariant-loop-at
invariant-loop-at g l =
    let T = g.T.TextStore in
    record {
      below : l.at ≤ l.len;
      zero : T.faithful l.fn.store → l.from + length (before_zero (drop l.from (T.text l.fn.store))) ≡ l.at + length (before_zero (drop l.at (T.text l.fn.store)));
      window : length l.window ≡ length l.fn.window;
      reads : OnlyReadsText T false l.fn.store l.store;
    }

abbrev pub decreases-loop-at : goal.decreases-loop-at
decreases-loop-at g l = l.len - l.at
