use Rattle.std.proofs.Common.{◌≡◌, ◌≤◌, ◌-◌, [], false, length}
use Rattle.bx_journal_format.specs.Text.{split}
use Rattle.bx_journal_model.specs.Looking.{OnlyReadsText}
use Rattle.bx_journal_read.specs.scan.Windows.{rest_to}
use Rattle.bx_journal_image.specs.Blocks.{AreStruck, ranges_in}
use Rattle.bx_journal_image.proofs.blocks.strikes.strike_text.Given as goal

-- the lines so far
abbrev pub invariant-loop-at : goal.invariant-loop-at
invariant-loop-at g l =
    let T = g.T.TextStore in
    record {
      low : l.from ≤ l.at;
      below : l.at ≤ l.to;
      struck : T.faithful l.fn.store → AreStruck l.total (ranges_in (split (rest_to l.at l.from (T.text l.fn.store))).lines) l.fn.marks l.marks;
      whole : T.faithful l.fn.store → (split (rest_to l.at l.from (T.text l.fn.store))).rest ≡ [];
      window : length l.window ≡ length l.fn.window;
      reads : OnlyReadsText T false l.fn.store l.store;
    }

abbrev pub decreases-loop-at : goal.decreases-loop-at
decreases-loop-at g l = l.to - l.at
