-- Numbers that were written in a field of their width.
use Rattle.std.proofs.Common.{◌≡◌, ℕ, zero, suc, ◌/◌, ◌%◌, ◌^◌, ◌<◌, ◌≤◌, false, List, [], ◌∷◌, ◌++◌, refl, sym, ◌∙◌, arith, append_assoc, append-nil}
use Rattle.std.specs.Fmt.{digit_glyph}
use Rattle.bx_text.specs.Field.{hex_text}
use Rattle.bx_text.proofs.FixedLemmas.{fixed_onto, fixed_text}
use Rattle.bx_journal_format.specs.Hex.{hex_digits}

fixed_digits : (k n : ℕ) (acc : List ℕ) → fixed_onto k n acc ≡ hex_digits k n ++ acc
unfolding hex_digits
fixed_digits zero n acc = refl
fixed_digits (suc k) n acc =
    fixed_digits k (n / 16) (digit_glyph false (n % 16) ∷ acc)
    ∙ sym (append_assoc (hex_digits k (n / 16)) (digit_glyph false (n % 16) ∷ []) acc)

pub field_digits : (width n : ℕ) → 0 < width → width ≤ 16 → n < 16 ^ width → hex_text false width n ≡ hex_digits width n
field_digits width n some wide fits = sym (fixed_text width 64 n refl (omega (arith, wide)) some fits) ∙ fixed_digits width n [] ∙ append-nil (hex_digits width n)
