-- Pairs of digits, one after another.
use Rattle.std.proofs.Common.{◌≡◌, ℕ, ◌+◌, ◌<◌, ◌≤◌, true, false, ◌&&◌, Option, None, Some, List, [], ◌∷◌, length, get_or, drop, refl, arith, sym, ap, ◌∙◌}
use Rattle.std.specs.Option.{option_map}
use Rattle.std.proofs.lemmas.List.{drop_more, drop_all}
use Rattle.std.proofs.lemmas.Bool.{ne_eqb}
use Rattle.bx_read.specs.Digits.{is_hex, pairs_of, pair_value}

pub pairs_of-wrong : (high low : ℕ) (rest : List ℕ) → (is_hex high && is_hex low) ≡ false → pairs_of (high ∷ low ∷ rest) ≡ None
pairs_of-wrong high low [] e = rw e refl
pairs_of-wrong high low (next ∷ rest) e = rw e refl

pub pairs_of-last : (high low : ℕ) → (is_hex high && is_hex low) ≡ true → pairs_of (high ∷ low ∷ []) ≡ Some (pair_value high low ∷ [])
pairs_of-last high low e = rw e refl

pub pairs_of-space : (high low : ℕ) (rest : List ℕ) → (is_hex high && is_hex low) ≡ true →
    pairs_of (high ∷ low ∷ 32 ∷ rest) ≡ option_map (λ bytes. pair_value high low ∷ bytes) (pairs_of rest)
pairs_of-space high low rest e = rw e refl

pub pairs_of-next : (high low next : ℕ) (rest : List ℕ) → (is_hex high && is_hex low) ≡ true → (next ≡ 32 → ⊥) →
    pairs_of (high ∷ low ∷ next ∷ rest) ≡ option_map (λ bytes. pair_value high low ∷ bytes) (pairs_of (next ∷ rest))
pairs_of-next high low next rest e other = rw (e, ne_eqb next 32 other) refl

-- a text of less than two characters has no pair
pub pairs_of-short : (text : List ℕ) → length text ≤ 1 → pairs_of text ≡ None
pairs_of-short [] h = refl
pairs_of-short (c ∷ []) h = refl
pairs_of-short (c ∷ d ∷ rest) h = absurd (omega arith)

-- a pair in front counts one more
count_more : (n b : ℕ) (o : Option (List ℕ)) → option_map (λ bytes. n + length bytes) (option_map (λ bytes. b ∷ bytes) o) ≡ option_map (λ bytes. n + 1 + length bytes) o
count_more n b None = refl
count_more n b (Some bytes) = ap Some (omega arith)

module _ (hex : List ℕ) (at : ℕ) where
  two : at + 2 ≤ length hex → drop at hex ≡ get_or hex at 0 ∷ get_or hex (at + 1) 0 ∷ drop (at + 2) hex
  two fits =
      let after : at + 1 + 1 ≡ at + 2 = omega arith in
      let second : drop (at + 1) hex ≡ get_or hex (at + 1) 0 ∷ drop (at + 2) hex = rw (← after) (drop_more hex (at + 1) 0 (omega arith)) in
      drop_more hex at 0 (omega arith) ∙ ap (λ rest. get_or hex at 0 ∷ rest) second

  -- the pairs from a place on, by the digits there and what follows them
  pub pairs_at-wrong : at + 2 ≤ length hex → (is_hex (get_or hex at 0) && is_hex (get_or hex (at + 1) 0)) ≡ false → pairs_of (drop at hex) ≡ None
  pairs_at-wrong fits e = rw (two fits) (pairs_of-wrong (get_or hex at 0) (get_or hex (at + 1) 0) (drop (at + 2) hex) e)

  pub pairs_at-last : at + 2 ≡ length hex → (is_hex (get_or hex at 0) && is_hex (get_or hex (at + 1) 0)) ≡ true →
      pairs_of (drop at hex) ≡ Some (pair_value (get_or hex at 0) (get_or hex (at + 1) 0) ∷ [])
  pairs_at-last end e =
      let none : drop (at + 2) hex ≡ [] = drop_all (at + 2) hex (omega arith) in
      let whole : drop at hex ≡ get_or hex at 0 ∷ get_or hex (at + 1) 0 ∷ [] = rw (← none) (two (omega arith)) in
      rw whole (pairs_of-last (get_or hex at 0) (get_or hex (at + 1) 0) e)

  -- the bytes from a place on, by the pair there and what follows it
  pub bytes_at-space : at + 2 < length hex → (is_hex (get_or hex at 0) && is_hex (get_or hex (at + 1) 0)) ≡ true → get_or hex (at + 2) 0 ≡ 32 →
      pairs_of (drop at hex) ≡ option_map (λ bytes. pair_value (get_or hex at 0) (get_or hex (at + 1) 0) ∷ bytes) (pairs_of (drop (at + 2 + 1) hex))
  bytes_at-space fits e space =
      let high = get_or hex at 0 in
      let low = get_or hex (at + 1) 0 in
      let rest : drop (at + 2) hex ≡ 32 ∷ drop (at + 2 + 1) hex = drop_more hex (at + 2) 0 fits ∙ ap (λ c. c ∷ drop (at + 2 + 1) hex) space in
      let whole : drop at hex ≡ high ∷ low ∷ 32 ∷ drop (at + 2 + 1) hex = two (omega arith) ∙ ap (λ text. high ∷ low ∷ text) rest in
      ap pairs_of whole ∙ pairs_of-space high low (drop (at + 2 + 1) hex) e

  pub bytes_at-next : at + 2 < length hex → (is_hex (get_or hex at 0) && is_hex (get_or hex (at + 1) 0)) ≡ true → (get_or hex (at + 2) 0 ≡ 32 → ⊥) →
      pairs_of (drop at hex) ≡ option_map (λ bytes. pair_value (get_or hex at 0) (get_or hex (at + 1) 0) ∷ bytes) (pairs_of (drop (at + 2) hex))
  bytes_at-next fits e other =
      let high = get_or hex at 0 in
      let low = get_or hex (at + 1) 0 in
      let next = get_or hex (at + 2) 0 in
      let rest : drop (at + 2) hex ≡ next ∷ drop (at + 2 + 1) hex = drop_more hex (at + 2) 0 fits in
      let whole : drop at hex ≡ high ∷ low ∷ next ∷ drop (at + 2 + 1) hex = two (omega arith) ∙ ap (λ text. high ∷ low ∷ text) rest in
      ap pairs_of whole ∙ pairs_of-next high low next (drop (at + 2 + 1) hex) e other
      ∙ ap (λ text. option_map (λ bytes. pair_value high low ∷ bytes) (pairs_of text)) (sym rest)

  -- the same for how many there are
  pub pairs_at-space : at + 2 < length hex → (is_hex (get_or hex at 0) && is_hex (get_or hex (at + 1) 0)) ≡ true → get_or hex (at + 2) 0 ≡ 32 → (n : ℕ) →
      option_map (λ bytes. n + length bytes) (pairs_of (drop at hex)) ≡ option_map (λ bytes. n + 1 + length bytes) (pairs_of (drop (at + 2 + 1) hex))
  pairs_at-space fits e space n =
      ap (option_map (λ bytes. n + length bytes)) (bytes_at-space fits e space)
      ∙ count_more n (pair_value (get_or hex at 0) (get_or hex (at + 1) 0)) (pairs_of (drop (at + 2 + 1) hex))

  pub pairs_at-next : at + 2 < length hex → (is_hex (get_or hex at 0) && is_hex (get_or hex (at + 1) 0)) ≡ true → (get_or hex (at + 2) 0 ≡ 32 → ⊥) → (n : ℕ) →
      option_map (λ bytes. n + length bytes) (pairs_of (drop at hex)) ≡ option_map (λ bytes. n + 1 + length bytes) (pairs_of (drop (at + 2) hex))
  pairs_at-next fits e other n =
      ap (option_map (λ bytes. n + length bytes)) (bytes_at-next fits e other)
      ∙ count_more n (pair_value (get_or hex at 0) (get_or hex (at + 1) 0)) (pairs_of (drop (at + 2) hex))
