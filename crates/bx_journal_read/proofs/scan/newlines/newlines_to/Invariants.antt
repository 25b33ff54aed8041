use Rattle.std.proofs.Common.{◌≡◌, ◌-◌, ◌≤◌, length, take, false}
use Rattle.bx_journal_format.specs.Text.{split}
use Rattle.bx_journal_model.specs.Looking.{OnlyReadsText}
use Rattle.bx_journal_read.proofs.scan.newlines.newlines_to.Given as goal

-- what was read so far is counted
abbrev pub invariant-loop-at : goal.invariant-loop-at
invariant-loop-at g l =
    let T = g.T.TextStore in
    record {
      below : l.at ≤ l.len;
      counted : T.faithful l.fn.store → l.count ≡ length (split (take l.at (T.text l.fn.store))).lines;
      most : l.count ≤ l.at;
      window : length l.window ≡ length l.fn.window;
      reads : OnlyReadsText T false l.fn.store l.store;
    }

abbrev pub decreases-loop-at : goal.decreases-loop-at
decreases-loop-at g l = l.len - l.at
