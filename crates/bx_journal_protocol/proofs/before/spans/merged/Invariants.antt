use Rattle.std.proofs.Common.{◌≡◌, ℕ, ◌<◌, ◌≤◌, ◌||◌, length, get_or, take}
use Rattle.bx_image.specs.declared.record.spans.Span.{Span}
use Rattle.bx_image.specs.Over.{LieWithin}
use Rattle.bx_image.specs.private.Spans.{is_between, are_over}
use Rattle.bx_journal_protocol.proofs.before.spans.merged.Given as goal

-- the ranges so far are joined, but for the last of them, which the next may yet make longer
abbrev pub invariant-loop-span : goal.invariant-loop-span
invariant-loop-span g l = record {
  over : (i : ℕ) → (are_over l.merged.items i || is_between l.at l.end i) ≡ are_over (take l.span-index l.spans) i;
  within : (len : ℕ) → LieWithin len l.spans → LieWithin len l.merged.items × (l.end ≤ len);
  below : (j : ℕ) (d : Span) → l.span-index ≤ j → j < length l.spans → l.at ≤ (get_or l.spans j d).at;
}
