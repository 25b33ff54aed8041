use Rattle.std.proofs.Common.{◌≡◌, ◌+◌, [], false, length, take, drop}
use Rattle.bx_image.specs.Cached.{IsCache, OnlyReadsImage}
use Rattle.bx_journal_format.specs.Text.{split}
use Rattle.bx_journal_image.specs.Written.{Sums, at_lines}
use Rattle.bx_journal_image.proofs.finding.written.sum_lines.Given as goal

-- the lines so far
abbrev pub invariant-loop-i : goal.invariant-loop-i
invariant-loop-i g l =
    let D = g.D.Device in
    record {
      sums : D.faithful l.fn.image → Sums l.fn.sum l.sum (at_lines (D.image l.fn.image) (take l.taken l.text));
      cache : IsCache (D.faithful l.fn.image) (D.image l.fn.image) l.page l.now;
      within : l.taken + length l.rest ≡ length l.text;
      left : l.rest ≡ drop l.taken l.text;
      whole : (split (take l.taken l.text)).rest ≡ [];
      page : length l.page ≡ length l.fn.page;
      reads : OnlyReadsImage D false l.fn.image l.image;
    }

abbrev pub decreases-loop-i : goal.decreases-loop-i
decreases-loop-i g l = length l.rest
