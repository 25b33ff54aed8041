-- Two digits, as the crate `hex` reads them.
use Rattle.std.proofs.Common.{◌≡◌, ℕ, ◌+◌, ◌*◌, ◌<◌, ◌≤◌, true, ◌&&◌, cond, Option, None, Some, Ok, List, [], ◌∷◌, length, get_or, take, drop, refl, arith, ap, ◌∙◌}
use Rattle.std.specs.Prelude.{nat_eq}
use Rattle.std.specs.Char.{digit_value}
use Rattle.std.specs.Option.{unwrap_or}
use Rattle.std.proofs.lemmas.Bool.{agree_below_at, eqb-true, ltb-true}
use Rattle.std.proofs.lemmas.List.{drop_more}
use Rattle.hex.specs.Hex.{hex_digit_value, decode_pairs, decode_sized}
use Rattle.bx_read.specs.Digits.{is_hex, pair_value}
use Rattle.bx_read.proofs.GrammarLemmas.{and_true}
use Rattle.bx_read.proofs.WrittenLemmas.{hex_range}

same_value : (c : ℕ) → c < 256 → unwrap_or (hex_digit_value c) 999 ≡ cond (is_hex c) (digit_value c) 999
same_value c below =
    eqb-true (unwrap_or (hex_digit_value c) 999) (cond (is_hex c) (digit_value c) 999)
    (agree_below_at (λ i. nat_eq (unwrap_or (hex_digit_value i) 999) (cond (is_hex i) (digit_value i) 999)) (λ _. true) 256 c refl below)

digit_is : (c : ℕ) → is_hex c ≡ true → hex_digit_value c ≡ Some (digit_value c)
digit_is c is = go (hex_digit_value c) (same_value c (omega (arith, (hex_range c is).1)) ∙ ap (λ b. cond b (digit_value c) 999) is)
  where
    go : (o : Option ℕ) → unwrap_or o 999 ≡ digit_value c → o ≡ Some (digit_value c)
    go None e = absurd (omega (arith, e, ltb-true (digit_value c) 16 is))
    go (Some v) e = ap Some e

pub pair_decoded : (high low : ℕ) → (is_hex high && is_hex low) ≡ true → decode_sized (high ∷ low ∷ []) 1 ≡ Ok (pair_value high low ∷ [])
unfolding decode_pairs
pair_decoded high low e =
    let both = and_true (is_hex high) (is_hex low) e in
    let order : digit_value high * 16 + digit_value low ≡ pair_value high low = omega arith in
    rw (digit_is high both.0, digit_is low both.1) (ap (λ b. Ok (b ∷ [])) order)

-- two places of a text
pub two_at : (text : List ℕ) (at : ℕ) → at + 2 ≤ length text → take 2 (drop at text) ≡ get_or text at 0 ∷ get_or text (at + 1) 0 ∷ []
two_at text at fits =
    let after : at + 1 + 1 ≡ at + 2 = omega arith in
    let spelled : drop at text ≡ get_or text at 0 ∷ get_or text (at + 1) 0 ∷ drop (at + 1 + 1) text =
    drop_more text at 0 (omega arith) ∙ ap (λ r. get_or text at 0 ∷ r) (drop_more text (at + 1) 0 (omega arith)) in
    ap (take 2) spelled
