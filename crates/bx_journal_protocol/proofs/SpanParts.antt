-- Ranges to which parts of others are added.
use Rattle.std.proofs.Common.{◌≡◌, ℕ, ◌+◌, ◌-◌, ◌^◌, ◌<◌, ◌≤◌, inl, inr, max, min, Bool, true, false, ◌||◌, ◌&&◌, List, length, refl, ap, sym, ◌∙◌, arith}
use Rattle.std.specs.Prelude.{◌⊎◌, nat_lt, nat_le}
use Rattle.std.proofs.lemmas.Bool.{cases_lt}
use Rattle.std.proofs.lemmas.Bool.Decides.{nat_tests}
use Rattle.bx_image.specs.private.Spans.{is_between}

le_both : (m n i : ℕ) → nat_le (max m n) i ≡ (nat_le m i && nat_le n i)
le_both m n i = elim (cases_lt i m) [
  | inl low ↦
      let no : nat_le m i ≡ false = grind (arith, nat_tests) in
      let none : nat_le (max m n) i ≡ false = grind (arith, nat_tests) in
      rw (no, none) refl
  | inr hi ↦
      let yes : nat_le m i ≡ true = grind (arith, nat_tests) in
      let same : nat_le (max m n) i ≡ nat_le n i = grind (arith, nat_tests) in
      rw (yes, same) refl
]

lt_both : (m n i : ℕ) → nat_lt i (min m n) ≡ (nat_lt i m && nat_lt i n)
lt_both m n i = elim (cases_lt i m) [
  | inl low ↦
      let yes : nat_lt i m ≡ true = grind (arith, nat_tests) in
      let same : nat_lt i (min m n) ≡ nat_lt i n = grind (arith, nat_tests) in
      rw (yes, same) refl
  | inr hi ↦
      let no : nat_lt i m ≡ false = grind (arith, nat_tests) in
      let none : nat_lt i (min m n) ≡ false = grind (arith, nat_tests) in
      rw (no, none) refl
]

-- the part of a range
pub part_between : (at upto base end i : ℕ) → is_between (max at base) (min upto end) i ≡ (is_between base end i && is_between at upto i)
part_between at upto base end i = rw (le_both at base i, lt_both upto end i) (turned (nat_le at i) (nat_le base i) (nat_lt i upto) (nat_lt i end))
  where
    turned : (a b u e : Bool) → ((a && b) && (u && e)) ≡ ((b && e) && (a && u))
    turned true true true true = refl
    turned true true true false = refl
    turned true true false true = refl
    turned true true false false = refl
    turned true false true true = refl
    turned true false true false = refl
    turned true false false true = refl
    turned true false false false = refl
    turned false true true true = refl
    turned false true true false = refl
    turned false true false true = refl
    turned false true false false = refl
    turned false false u e = refl

-- the end of a run that no number can tell lies behind each that one can
pub part_of_run : (at count sum base end i : ℕ) → sum ≡ min (at + count) (2 ^ 64 - 1) → end < 2 ^ 64 → (is_between base end i && is_between at sum i) ≡ (is_between base end i && is_between at (at + count) i)
part_of_run at count sum base end i is fits = elim (cases_lt i end) [
  | inl low ↦ let same : nat_lt i sum ≡ nat_lt i (at + count) = far (cases_lt (at + count) (2 ^ 64)) low in ap (λ b. is_between base end i && (nat_le at i && b)) same
  | inr hi ↦
      let no : nat_lt i end ≡ false = grind (arith, nat_tests) in
      ap (λ b. (nat_le base i && b) && is_between at sum i) no ∙ out (nat_le base i) (is_between at sum i) (is_between at (at + count) i) ∙ sym (ap (λ b. (nat_le base i && b) && is_between at (at + count) i) no)
]
  where
    out : (b c d : Bool) → ((b && false) && c) ≡ ((b && false) && d)
    out true c d = refl
    out false c d = refl

    far : (at + count < 2 ^ 64) ⊎ (2 ^ 64 ≤ at + count) → i < end → nat_lt i sum ≡ nat_lt i (at + count)
    far (inl short) low = let same : sum ≡ at + count = omega (arith, is, short) in ap (nat_lt i) same
    far (inr long) low =
        let one : i < sum = omega (arith, is, long, low, fits) in
        let two : i < at + count = omega (arith, long, low, fits) in
        let yes : nat_lt i sum ≡ true = grind (arith, nat_tests) in
        let both : nat_lt i (at + count) ≡ true = grind (arith, nat_tests) in
        yes ∙ sym both

-- before any, and with one more
pub part_none : (old between : Bool) → old ≡ (old || (between && false))
part_none true b = refl
part_none false true = refl
part_none false false = refl

pub part_more : (old between some one : Bool) → ((old || (between && some)) || (between && one)) ≡ (old || (between && (some || one)))
part_more true b some one = refl
part_more false true some one = refl
part_more false false some one = refl
