use Rattle.std.proofs.Common.{◌≡◌, ◌≤◌, ◌-◌, [], false, length}
use Rattle.bx_image.specs.Cached.{IsCache}
use Rattle.bx_journal_format.specs.Text.{split}
use Rattle.bx_journal_read.specs.scan.Windows.{rest_to}
use Rattle.bx_journal_image.specs.Looks.{LooksAtBoth}
use Rattle.bx_journal_image.specs.Written.{Sums, at_lines}
use Rattle.bx_journal_image.proofs.finding.written.sum_text.Given as goal

-- the windows so far
abbrev pub invariant-loop-at : goal.invariant-loop-at
invariant-loop-at g l =
    let D = g.D.Device in
    let T = g.T.TextStore in
    record {
      low : l.part.from ≤ l.at;
      below : l.at ≤ l.part.to;
      sums : D.faithful l.fn.image → T.faithful l.fn.store → Sums l.fn.sum l.sum (at_lines (D.image l.fn.image) (rest_to l.at l.part.from (T.text l.fn.store)));
      whole : T.faithful l.fn.store → (split (rest_to l.at l.part.from (T.text l.fn.store))).rest ≡ [];
      cache : IsCache (D.faithful l.fn.image) (D.image l.fn.image) l.page l.cached;
      page : length l.page ≡ 4096;
      window : length l.window ≡ 65536;
      looks : LooksAtBoth D T false l.fn.image l.image l.fn.store l.store;
    }

abbrev pub decreases-loop-at : goal.decreases-loop-at
decreases-loop-at g l = l.part.to - l.at
