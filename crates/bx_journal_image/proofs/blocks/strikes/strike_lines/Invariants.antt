use Rattle.std.proofs.Common.{◌≡◌, ◌<◌, ◌+◌, ℕ, None, [], length, take, drop, if◌then◌else◌}
use Rattle.bx_journal_format.specs.Text.{split}
use Rattle.bx_journal_image.specs.Blocks.{is_one_touched, mark_at, ranges_in}
use Rattle.bx_journal_image.proofs.blocks.strikes.strike_lines.Given as goal

-- what the lines that are left strike of the marks so far is what all strike, and what was taken is whole lines
abbrev pub invariant-loop-i : goal.invariant-loop-i
invariant-loop-i l = record {
  same : (p : ℕ) → p < 32 → (if is_one_touched l.total (ranges_in (split l.rest).lines) p then None else mark_at l.marks p)
      ≡ (if is_one_touched l.total (ranges_in (split l.text).lines) p then None else mark_at l.fn.marks p);
  within : l.taken + length l.rest ≡ length l.text;
  left : l.rest ≡ drop l.taken l.text;
  whole : (split (take l.taken l.text)).rest ≡ [];
}

abbrev pub decreases-loop-i : goal.decreases-loop-i
decreases-loop-i l = length l.rest
