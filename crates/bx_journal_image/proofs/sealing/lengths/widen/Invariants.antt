use Rattle.std.proofs.Common.{◌≡◌, ◌+◌, [], length, take, drop}
use Rattle.bx_journal_format.specs.Text.{split}
use Rattle.bx_journal_image.specs.declared.sealing.seal.Span.{Span}
use Rattle.bx_journal_image.specs.Seal.{Widens}
use Rattle.bx_journal_image.proofs.sealing.lengths.widen.Given as goal

-- what the lines that are left widen the span so far to, all widen it to, and what was taken is whole lines
abbrev pub invariant-loop-i : goal.invariant-loop-i
invariant-loop-i l = record {
  all : (new : Span) → Widens (split l.rest).lines l.span new → Widens (split l.text).lines l.fn.span new;
  within : l.taken + length l.rest ≡ length l.text;
  left : l.rest ≡ drop l.taken l.text;
  whole : (split (take l.taken l.text)).rest ≡ [];
}

abbrev pub decreases-loop-i : goal.decreases-loop-i
decreases-loop-i l = length l.rest
