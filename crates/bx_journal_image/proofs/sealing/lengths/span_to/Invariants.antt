use Rattle.std.proofs.Common.{◌≡◌, ◌≤◌, ◌-◌, [], false, length}
use Rattle.bx_journal_format.specs.Text.{split}
use Rattle.bx_journal_model.specs.Looking.{OnlyReadsText}
use Rattle.bx_journal_read.specs.scan.Windows.{rest_to}
use Rattle.bx_journal_image.specs.Seal.{Widens}
use Rattle.bx_journal_image.proofs.sealing.lengths.span_to.Given as goal

-- the lines so far
abbrev pub invariant-loop-at : goal.invariant-loop-at
invariant-loop-at g l =
    let T = g.T.TextStore in
    record {
      below : l.at ≤ l.len;
      widened : T.faithful l.fn.store → Widens (split (rest_to l.at 0 (T.text l.fn.store))).lines (record { least = l.total; most = l.total }) l.span;
      whole : T.faithful l.fn.store → (split (rest_to l.at 0 (T.text l.fn.store))).rest ≡ [];
      window : length l.window ≡ 65536;
      reads : OnlyReadsText T false l.fn.store l.store;
    }

abbrev pub decreases-loop-at : goal.decreases-loop-at
decreases-loop-at g l = l.len - l.at
