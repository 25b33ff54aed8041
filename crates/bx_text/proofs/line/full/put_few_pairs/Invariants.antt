use Rattle.std.proofs.Common.{◌≡◌, ℕ, ◌<◌, length, get_or, false}
use Rattle.bx_text.specs.Field.{char_at}
use Rattle.bx_text.specs.Dump.{pair_of}
use Rattle.bx_text.specs.private.Dump.{hex_place}
use Rattle.bx_text.proofs.line.full.put_few_pairs.Given as goal

-- the bytes so far stand at their places
abbrev pub invariant-loop-i : goal.invariant-loop-i
invariant-loop-i l = (p : ℕ) → p < length l.field → get_or l.field p 0 ≡ char_at (hex_place 2) (λ i. pair_of false (get_or l.bytes i 0)) l.i p
