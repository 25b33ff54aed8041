-- Digits give back their number.
use Rattle.std.proofs.Common.{◌≡◌, ℕ, zero, suc, ◌+◌, ◌*◌, ◌/◌, ◌%◌, ◌^◌, ◌<◌, true, false, eqb, List, [], ◌∷◌, ◌++◌, length, refl, ap, ◌∙◌, arith, length-append, Option, Some, None}
use Rattle.std.specs.Prelude.{option_and_then}
use Rattle.std.specs.Fmt.{digit_glyph}
use Rattle.std.specs.List.{list_all}
use Rattle.std.proofs.lemmas.Grind.{common_steps}
use Rattle.std.proofs.lemmas.List.Folds.{list_all-append}
use Rattle.std.proofs.Math.Nat.{pow-suc, div-add-mod, mod-lt}
use Rattle.bx_journal_format.specs.Hex.{hex_digits, hex_nibble, number_after, number_of}
use Rattle.bx_text.specs.Ascii.{is_printable}
use Rattle.bx_journal_format.specs.read.Plain.{HasNoNewline}
use Rattle.bx_journal_format.proofs.Splits.{plain-append}

pub length-hex_digits : (w n : ℕ) → length (hex_digits w n) ≡ w
unfolding hex_digits
length-hex_digits zero n = refl
length-hex_digits (suc w) n = length-append (hex_digits w (n / 16)) (digit_glyph false (n % 16) ∷ []) ∙ ap (λ k. k + 1) (length-hex_digits w (n / 16)) ∙ omega arith

pub number_after-append : (a : ℕ) (xs ys : List ℕ) (b : ℕ) → number_after a xs ≡ Some b → number_after a (xs ++ ys) ≡ number_after b ys
unfolding number_after
number_after-append a [] ys b e = let same : a ≡ b = cc in ap (λ k. number_after k ys) same
number_after-append a (c ∷ xs) ys b e = step (hex_nibble c) (λ k. number_after-append k xs ys b) e
  where
    step : (o : Option ℕ) → ((k : ℕ) → number_after k xs ≡ Some b → number_after k (xs ++ ys) ≡ number_after b ys)
        → option_and_then (λ d. number_after (16 * a + d) xs) o ≡ Some b → option_and_then (λ d. number_after (16 * a + d) (xs ++ ys)) o ≡ number_after b ys
    step None ih e = cc
    step (Some d) ih e = ih (16 * a + d) e

pub hex_value-hex_digit : (d : ℕ) → d < 16 → hex_nibble (digit_glyph false d) ≡ Some d
hex_value-hex_digit d h = grind (arith, common_steps)

pub number_after-hex_digits : (w n a : ℕ) → n < 16 ^ w → number_after a (hex_digits w n) ≡ Some (16 ^ w * a + n)
unfolding hex_digits number_after
number_after-hex_digits zero n a h = ap Some (omega (arith, h))
number_after-hex_digits (suc w) n a h =
    let front : n / 16 < 16 ^ w = omega (arith, pow-suc 16 w, div-add-mod n 16) in
    let digit : n % 16 < 16 = mod-lt n (omega arith) in
    let more : 16 ^ suc w * a ≡ 16 * (16 ^ w * a) = rw (pow-suc 16 w) (omega arith) in
    number_after-append a (hex_digits w (n / 16)) (digit_glyph false (n % 16) ∷ []) (16 ^ w * a + n / 16) (number_after-hex_digits w (n / 16) a front)
    ∙ rw (hex_value-hex_digit (n % 16) digit) (ap Some (omega (arith, more, div-add-mod n 16)))

pub number_of-hex_digits : (w n : ℕ) → n < 16 ^ w → number_of w (hex_digits w n) ≡ Some n
number_of-hex_digits w n h = rw (length-hex_digits w n) (grind (arith, common_steps, number_after-hex_digits w n 0 h))

pub plain-hex_digits : (w n : ℕ) → HasNoNewline (hex_digits w n)
unfolding hex_digits
plain-hex_digits zero n = tt
plain-hex_digits (suc w) n = plain-append (hex_digits w (n / 16)) (digit_glyph false (n % 16) ∷ []) (plain-hex_digits w (n / 16)) (plain_digit (n % 16), tt)
  where
    plain_digit : (d : ℕ) → eqb (digit_glyph false d) 10 ≡ false
    plain_digit d = grind (arith, common_steps)

printable_digit : (d : ℕ) → d < 16 → is_printable (digit_glyph false d) ≡ true
printable_digit d h = grind (arith, common_steps)

pub printable-hex_digits : (w n : ℕ) → list_all is_printable (hex_digits w n) ≡ true
unfolding hex_digits
printable-hex_digits zero n = refl
printable-hex_digits (suc w) n =
    let digit : n % 16 < 16 = mod-lt n (omega arith) in
    rw (list_all-append is_printable (hex_digits w (n / 16)) (digit_glyph false (n % 16) ∷ []), printable-hex_digits w (n / 16), printable_digit (n % 16) digit) refl
