-- Numbers in a fixed count of digits of any base.
use Rattle.std.proofs.Common.{◌≡◌, ℕ, zero, suc, ◌+◌, ◌-◌, ◌*◌, ◌/◌, ◌%◌, ◌^◌, ◌<◌, ◌≤◌, false, List, [], ◌∷◌, ◌++◌, length, replicate, drop, refl, sym, ap, ◌∙◌, arith, add-one, ⊎_elim}
use Rattle.std.proofs.Math.ListN.{set}
use Rattle.std.specs.Fmt.{digits, digits_onto, digit_glyph}
use Rattle.std.proofs.lemmas.Bool.{cases_eq}
use Rattle.std.proofs.lemmas.List.{drop-set, drop_all}
use Rattle.std.proofs.lemmas.Nat.{div_below}
use Rattle.std.proofs.Math.Nat.{pow-suc, pow-zero, div-eq_of_lt, mod-eq_of_lt}
use Rattle.bx_text.proofs.FieldLemmas.{digits_onto-last, digits_onto-more, digits_start}
use Rattle.bx_text.specs.Field.{left_filled}

-- the k last digits of n, in front of acc
abbrev pub based_onto : ℕ → ℕ → ℕ → List ℕ → List ℕ
based_onto base zero n acc = acc
based_onto base (suc k) n acc = based_onto base k (n / base) (digit_glyph false (n % base) ∷ acc)

snoc : (k : ℕ) (acc : List ℕ) → replicate k 48 ++ (48 ∷ acc) ≡ 48 ∷ (replicate k 48 ++ acc)
snoc zero acc = refl
snoc (suc k) acc = ap (λ t. 48 ∷ t) (snoc k acc)

module _ (base : ℕ) (big : 2 ≤ base) where
  zeros : (k : ℕ) (acc : List ℕ) → based_onto base k 0 acc ≡ replicate k 48 ++ acc
  zeros zero acc = refl
  zeros (suc k) acc =
      let none : 0 / base ≡ 0 = div-eq_of_lt (omega arith) in
      let rest : 0 % base ≡ 0 = mod-eq_of_lt (omega arith) in
      rw (none, rest) (zeros k (48 ∷ acc) ∙ snoc k acc)

  based_is : (k j n : ℕ) (acc : List ℕ) → n < base ^ k → 0 < k → k ≤ j →
      based_onto base k n acc ≡ replicate (k + length acc - length (digits_onto j base false n acc)) 48 ++ digits_onto j base false n acc
  based_is zero j n acc small some le = absurd (omega arith)
  based_is (suc k) zero n acc small some le = absurd (omega arith)
  based_is (suc k) (suc j) n acc small some le =
      let power : base ^ suc k ≡ base ^ k * base = pow-suc base k in
      let below : n / base < base ^ k = div_below n base (base ^ k) (omega arith) (rw power at small) in
      let g = digit_glyph false (n % base) in
      ⊎_elim
      (λ z.
      let many : suc k + length acc - length (g ∷ acc) ≡ k = omega arith in
      rw (digits_onto-last (suc j) j base false n acc (sym (add-one j)) z, many) (ap (λ m. based_onto base k m (g ∷ acc)) z ∙ zeros k (g ∷ acc)))
      (λ z.
      let more : 0 < k = positive k (n / base) below z in
      let later = based_is k j (n / base) (g ∷ acc) below more (omega arith) in
      let many : suc k + length acc ≡ k + length (g ∷ acc) = omega arith in
      rw (digits_onto-more (suc j) j base false n acc (sym (add-one j)) z, many) later)
      (cases_eq (n / base) 0)
    where
      positive : (k m : ℕ) → m < base ^ k → (m ≡ 0 → ⊥) → 0 < k
      positive zero m small z = absurd (z (omega (arith, pow-zero base)))
      positive (suc k) m small z = omega arith

  -- stated of variables: at the numeral 64 the digits would be written out
  pub based_text : (k j n : ℕ) → j ≡ 64 → k ≤ j → 0 < k → n < base ^ k → based_onto base k n [] ≡ left_filled 48 k (digits base false n)
  based_text k j n e le some small =
      let same : k + 0 ≡ k = omega arith in
      rw (← digits_start j base false n e) (rw same at (based_is k j n [] small some le))

  -- nothing put yet
  pub based_start : (field : List ℕ) (k n : ℕ) → length field ≡ k → k ≤ 64 → 0 < k → n < base ^ k → based_onto base k n (drop k field) ≡ left_filled 48 k (digits base false n)
  based_start field k n len le some small = ap (based_onto base k n) (drop_all k field (omega arith)) ∙ based_text k 64 n refl le some small

-- one digit more, from the last on
pub based_step : (base a b n : ℕ) (field : List ℕ) → a ≡ b + 1 → b < length field →
    based_onto base b (n / base) (drop b (set field b (digit_glyph false (n % base)))) ≡ based_onto base a n (drop a field)
based_step base a b n field e inside =
    let cell : drop b (set field b (digit_glyph false (n % base))) ≡ digit_glyph false (n % base) ∷ drop a field =
    drop-set field b (digit_glyph false (n % base)) inside ∙ rw (e, add-one) refl in
    rw (cell, e, add-one) refl
