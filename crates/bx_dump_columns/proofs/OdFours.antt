-- od's decimal values of four bytes, by their first digits and the last eight.
use Rattle.std.proofs.Common.{◌≡◌, ℕ, zero, suc, ◌+◌, ◌-◌, ◌*◌, ◌/◌, ◌%◌, ◌^◌, ◌<◌, ◌≤◌, leb, if◌then◌else◌, false, List, [], ◌∷◌, ◌++◌, length, take, drop, get_or, Fits, w8, refl, sym, ap, ◌∙◌, arith, inl, inr, append_assoc, append-nil, length-append}
use Rattle.std.specs.Fmt.{digits}
use Rattle.std.specs.List.{flat_map, range_with_len}
use Rattle.std.proofs.lemmas.Bool.{cases_Bool, leb-true, leb-false, lt-ltb, le-ltb}
use Rattle.std.proofs.lemmas.List.{take_at, drop_at}
use Rattle.std.proofs.lemmas.Simd.{pick_l-range_with_len}
use lib.Lanes.{pick_l, number_l, digits_l, Each1}
use Rattle.bx_text.specs.Field.{left_filled}
use Rattle.bx_dump_columns.specs.Lines.{in_lines}
use Rattle.bx_dump_columns.specs.Values.{value_of, number_text, value_text}
use Rattle.bx_dump_columns.specs.Decimal.{fours, amount_of_four}
use Rattle.bx_dump_columns.specs.declared.od.options.Size.TheVariants.{Four}
use Rattle.bx_dump_columns.specs.declared.od.options.NumForm.{NumForm}
use Rattle.bx_dump_columns.specs.declared.od.options.NumForm.TheVariants as form
use Rattle.bx_dump_columns.specs.declared.od.options.Kind.TheVariants.{Number}
use Rattle.bx_dump_columns.proofs.DigitParts.{led_two, fixed_length}
use Rattle.bx_dump_columns.proofs.LinesLemmas.{in_lines-append, in_lines-none, in_lines-one}

-- bytes as lanes of four bytes
pub fours_are : (n : ℕ) (bytes : List ℕ) → length bytes ≡ 4 * n → Each1 (Fits w8) bytes → digits_l 4294967296 n (number_l 256 bytes) ≡ fours bytes
fours_are n [] long small = let o : n ≡ 0 = omega arith in rw o refl
fours_are zero (a ∷ rest) long small = absurd (omega arith)
fours_are (suc n) (a ∷ []) long small = absurd (omega arith)
fours_are (suc n) (a ∷ b ∷ []) long small = absurd (omega arith)
fours_are (suc n) (a ∷ b ∷ c ∷ []) long small = absurd (omega arith)
fours_are (suc n) (a ∷ b ∷ c ∷ d ∷ rest) long small =
    let x = number_l 256 rest in
    let one : a < 2 ^ 8 = small.0.fits in
    let two : b < 2 ^ 8 = small.1.0.fits in
    let three : c < 2 ^ 8 = small.1.1.0.fits in
    let four : d < 2 ^ 8 = small.1.1.1.0.fits in
    let low : (a + 256 * (b + 256 * (c + 256 * (d + 256 * x)))) % 4294967296 ≡ value_of (a ∷ b ∷ c ∷ d ∷ []) = omega arith in
    let high : (a + 256 * (b + 256 * (c + 256 * (d + 256 * x)))) / 4294967296 ≡ x = omega arith in
    (λ i. low i ∷ digits_l 4294967296 n (high i)) ∙ ap (λ l. value_of (a ∷ b ∷ c ∷ d ∷ []) ∷ l) (fours_are n rest (omega arith) small.1.1.1.1)

pub fours_length : (n : ℕ) (bytes : List ℕ) → length bytes ≡ 4 * n → length (fours bytes) ≡ n
fours_length n [] long = omega arith
fours_length zero (a ∷ rest) long = absurd (omega arith)
fours_length (suc n) (a ∷ []) long = absurd (omega arith)
fours_length (suc n) (a ∷ b ∷ []) long = absurd (omega arith)
fours_length (suc n) (a ∷ b ∷ c ∷ []) long = absurd (omega arith)
fours_length (suc n) (a ∷ b ∷ c ∷ d ∷ rest) long = ap suc (fours_length n rest (omega arith))

-- the digits of each of two numbers
eight_long : (n : ℕ) → n < 10 ^ 8 → length (left_filled 48 8 (digits 10 false n)) ≡ 8
eight_long n small = fixed_length 10 (omega arith) 8 n (omega arith) (omega arith) small

pub first_half : (xs : List ℕ) (a b : ℕ) → a < 10 ^ 8 → b < 10 ^ 8 → length xs ≡ 16 → xs ≡ left_filled 48 8 (digits 10 false a) ++ left_filled 48 8 (digits 10 false b) →
    pick_l 0 (xs ++ xs) (range_with_len 0 8) ≡ left_filled 48 8 (digits 10 false a)
first_half xs a b small_a small_b long e =
    let p = left_filled 48 8 (digits 10 false a) in
    let q = left_filled 48 8 (digits 10 false b) in
    pick_l-range_with_len 0 (xs ++ xs) 0 8 (omega (arith, length-append xs xs))
    ∙ ap (λ l. take 8 (l ++ xs)) e ∙ ap (take 8) (append_assoc p q xs) ∙ take_at p (q ++ xs) 8 (eight_long a small_a)

pub second_half : (xs : List ℕ) (a b : ℕ) → a < 10 ^ 8 → b < 10 ^ 8 → length xs ≡ 16 → xs ≡ left_filled 48 8 (digits 10 false a) ++ left_filled 48 8 (digits 10 false b) →
    pick_l 0 (xs ++ xs) (range_with_len 8 8) ≡ left_filled 48 8 (digits 10 false b)
second_half xs a b small_a small_b long e =
    let p = left_filled 48 8 (digits 10 false a) in
    let q = left_filled 48 8 (digits 10 false b) in
    pick_l-range_with_len 0 (xs ++ xs) 8 8 (omega (arith, length-append xs xs))
    ∙ ap (λ l. take 8 (drop 8 (l ++ xs))) e ∙ ap (λ l. take 8 (drop 8 l)) (append_assoc p q xs)
    ∙ ap (take 8) (drop_at p (q ++ xs) 8 (eight_long a small_a)) ∙ take_at q xs 8 (eight_long b small_b)

-- first digits and the last eight are the number
signed_text_is : (v : ℕ) → left_filled 32 11 ((if leb 2147483648 v then 45 ∷ [] else []) ++ digits 10 false (amount_of_four v)) ≡ number_text form.Signed Four v
signed_text_is v = elim (cases_Bool (leb 2147483648 v)) [
  | inl e ↦ let f = le-ltb v 2147483648 (leb-true 2147483648 v e) in rw (e, f) refl
  | inr e ↦ let f = lt-ltb v 2147483648 (leb-false 2147483648 v e) in rw (e, f) refl
]

amount_small : (v : ℕ) → v < 2 ^ 32 → amount_of_four v < 10 ^ 20
amount_small v small = elim (cases_Bool (leb 2147483648 v)) [
  | inl e ↦ rw e (let is : 4294967296 - v < 10 ^ 20 = omega arith in is)
  | inr e ↦ rw e (let is : v < 10 ^ 20 = omega arith in is)
]

pub signed_whole : (v a : ℕ) (last : List ℕ) → a ≡ amount_of_four v → last ≡ left_filled 48 8 (digits 10 false (a % 100000000)) → v < 2 ^ 32 → 10 ^ 8 ≤ amount_of_four v →
    32 ∷ (left_filled 32 3 ((if leb 2147483648 v then 45 ∷ [] else []) ++ digits 10 false (a / 100000000)) ++ last) ≡ 32 ∷ number_text form.Signed Four v
signed_whole v a last is ends small large =
    let sign : List ℕ = if leb 2147483648 v then 45 ∷ [] else [] in
    let few = amount_small v small in
    ap (λ t. 32 ∷ (left_filled 32 3 (sign ++ digits 10 false (a / 100000000)) ++ t)) ends
    ∙ ap (λ t. 32 ∷ t) (led_two 3 8 a 100000000 sign refl (omega arith) (omega arith) (omega arith) (omega arith) (omega arith))
    ∙ ap (λ n. 32 ∷ left_filled 32 11 (sign ++ digits 10 false n)) is ∙ ap (λ t. 32 ∷ t) (signed_text_is v)

pub unsigned_whole : (v : ℕ) (last : List ℕ) → last ≡ left_filled 48 8 (digits 10 false (v % 100000000)) → v < 2 ^ 32 → 10 ^ 8 ≤ v →
    32 ∷ (left_filled 32 2 (digits 10 false (v / 100000000)) ++ last) ≡ 32 ∷ number_text form.Unsigned Four v
unsigned_whole v last ends small large =
    ap (λ t. 32 ∷ (left_filled 32 2 (digits 10 false (v / 100000000)) ++ t)) ends
    ∙ ap (λ t. 32 ∷ t) (led_two 2 8 v 100000000 [] refl (omega arith) (omega arith) (omega arith) (omega arith) (omega arith))

module _ (f : NumForm) where
  abbrev pub cell : ℕ → List ℕ
  cell v = 32 ∷ number_text f Four v

  -- the four values of a line
  pub four_parts : (l : List ℕ) → length l ≡ 4 → (cell (get_or l 0 0) ++ cell (get_or l 1 0)) ++ (cell (get_or l 2 0) ++ cell (get_or l 3 0)) ≡ flat_map cell l
  four_parts [] long = absurd (omega arith)
  four_parts (a ∷ []) long = absurd (omega arith)
  four_parts (a ∷ b ∷ []) long = absurd (omega arith)
  four_parts (a ∷ b ∷ c ∷ []) long = absurd (omega arith)
  four_parts (a ∷ b ∷ c ∷ d ∷ []) long = append_assoc (cell a) (cell b) (cell c ++ cell d) ∙ ap (λ t. cell a ++ (cell b ++ (cell c ++ t))) (sym (append-nil (cell d)))
  four_parts (a ∷ b ∷ c ∷ d ∷ e ∷ rest) long = absurd (omega arith)

  pub four_values : (n : ℕ) (bytes : List ℕ) → length bytes ≡ 4 * n → (at : ℕ) → flat_map cell (fours bytes) ≡ in_lines (value_text (Number f Four)) 4 at bytes
  four_values n [] long at = sym (in_lines-none (value_text (Number f Four)) 4 at (omega arith))
  four_values zero (a ∷ rest) long at = absurd (omega arith)
  four_values (suc n) (a ∷ []) long at = absurd (omega arith)
  four_values (suc n) (a ∷ b ∷ []) long at = absurd (omega arith)
  four_values (suc n) (a ∷ b ∷ c ∷ []) long at = absurd (omega arith)
  four_values (suc n) (a ∷ b ∷ c ∷ d ∷ rest) long at =
      let line = value_text (Number f Four) in
      let first : in_lines line 4 at (a ∷ b ∷ c ∷ d ∷ []) ≡ cell (value_of (a ∷ b ∷ c ∷ d ∷ [])) = in_lines-one line 4 at (a ∷ b ∷ c ∷ d ∷ []) (omega arith) (omega arith) in
      let others = four_values n rest (omega arith) (at + 4) in
      sym (in_lines-append line 4 at 1 (a ∷ b ∷ c ∷ d ∷ []) rest (omega arith) refl ∙ ap (λ t. t ++ in_lines line 4 (at + 4) rest) first ∙ ap (λ t. cell (value_of (a ∷ b ∷ c ∷ d ∷ [])) ++ t) (sym others))

-- two texts of a known length, in front of more
pub both_taken : (n k : ℕ) (p q rest : List ℕ) → length p ≡ k → length q ≡ k → k + k ≡ n → take n (p ++ (q ++ rest)) ≡ p ++ q
both_taken n k p q rest long_p long_q e = ap (take n) (sym (append_assoc p q rest)) ∙ take_at (p ++ q) rest n (omega (arith, length-append p q))
