-- Decimal digits of two numbers, lane by lane.
use Rattle.std.proofs.Common.{◌≡◌, ℕ, zero, suc, ◌+◌, ◌-◌, ◌*◌, ◌/◌, ◌%◌, ◌^◌, ◌<◌, true, false, List, [], ◌∷◌, ◌++◌, map, length, replicate, refl, sym, ap, ◌∙◌, arith, div-add-mod', div-lt_iff_lt-mul, pow-suc}
use Rattle.std.specs.Prelude.{bytes_eq}
use Rattle.std.specs.Fmt.{digits}
use Rattle.std.specs.Int.Digits.{AllBelowBase}
use Rattle.std.proofs.lemmas.Bool.{agree_below_at}
use Rattle.std.proofs.lemmas.Slice.Eq.{bytes_eq-Decides}
use lib.Lanes.{zip2, number_l, digits_l}
use Rattle.bx_text.specs.Field.{left_filled}
use Rattle.bx_dump_columns.proofs.DigitParts.{fixed_two}

number_of_digits : (p n x : ℕ) → 0 < p → x < p ^ n → number_l p (digits_l p n x) ≡ x
number_of_digits p zero x P h = omega (arith, native.Mathlib.Nat.pow-zero p)
number_of_digits p (suc n) x P h =
    let less : x / p < p ^ n = (div-lt_iff_lt-mul P).1 (rw (← pow-suc p n) h) in
    rw (number_of_digits p n (x / p) P less) (omega (arith, div-add-mod' x p))

-- a word as four lanes of 16 bits
pub quarters : (w a b c d : ℕ) → a < 10000 → b < 10000 → c < 10000 → d < 10000 → w ≡ a + b * 2 ^ 16 + (c + d * 2 ^ 16) * 2 ^ 32
    → digits_l 65536 8 (number_l 256 (digits_l 256 16 (number_l (2 ^ 64) (w ∷ 0 ∷ [])))) ≡ a ∷ b ∷ c ∷ d ∷ 0 ∷ 0 ∷ 0 ∷ 0 ∷ []
quarters w a b c d A B C D e =
    let x = a + 65536 * (b + 65536 * (c + 65536 * (d + 65536 * 0))) in
    let same : w + 0 ≡ x = omega arith in
    ap (digits_l 65536 8) (number_of_digits 256 16 (w + 0) (omega arith) (omega arith) ∙ same) ∙ lowest 7 a _ A ∙ ap (λ l. a ∷ l) (lowest 6 b _ B ∙ ap (λ l. b ∷ l) (lowest 5 c _ C ∙ ap (λ l. c ∷ l) (lowest 4 d 0 D)))
  where
    lowest : (n a x : ℕ) → a < 10000 → digits_l 65536 (suc n) (a + 65536 * x) ≡ a ∷ digits_l 65536 n x
    lowest n a x h = let low : (a + 65536 * x) % 65536 ≡ a = omega arith in let high : (a + 65536 * x) / 65536 ≡ x = omega arith in λ i. low i ∷ digits_l 65536 n (high i)

-- what is left of a lane
pub rest_of : (x : ℕ) → x < 10000 → (x + (65536 - x / 100 * 100 % 65536)) % 65536 ≡ x % 100
rest_of x h = omega arith

abbrev lane : ℕ → ℕ
lane z = (z * 256 % 65536 + (65536 - z / 10 * 2559 % 65536)) % 65536

abbrev pairs : List ℕ → List ℕ
pairs [] = []
pairs (z ∷ zs) = z / 10 ∷ z % 10 ∷ pairs zs

abbrev glyphs : List ℕ → List ℕ
glyphs [] = []
glyphs (z ∷ zs) = (48 + z / 10) ∷ (48 + z % 10) ∷ glyphs zs

abbrev twice : List ℕ → ℕ
twice [] = 0
twice (z ∷ zs) = suc (suc (twice zs))

bytes_of : (zs : List ℕ) → AllBelowBase 100 zs → digits_l 256 (twice zs) (number_l 65536 (map lane zs)) ≡ pairs zs
bytes_of [] h = refl
bytes_of (z ∷ zs) h =
    let rest = number_l 65536 (map lane zs) in
    let is : lane z ≡ z / 10 + 256 * (z % 10) = omega (arith, h.0) in
    let tens : (lane z + 65536 * rest) % 256 ≡ z / 10 = rw is (omega (arith, h.0)) in
    let ones : (lane z + 65536 * rest) / 256 % 256 ≡ z % 10 = rw is (omega (arith, h.0)) in
    let on : (lane z + 65536 * rest) / 256 / 256 ≡ rest = rw is (omega (arith, h.0)) in
    (λ i. tens i ∷ ones i ∷ digits_l 256 (twice zs) (on i)) ∙ ap (λ l. z / 10 ∷ z % 10 ∷ l) (bytes_of zs h.1)

abbrev wrapped_add : ℕ → ℕ → ℕ
wrapped_add a b = (a + b) % 2 ^ 8

added : (zs : List ℕ) → AllBelowBase 100 zs → zip2 wrapped_add (replicate (twice zs) 48) (pairs zs) ≡ glyphs zs
added [] h = refl
added (z ∷ zs) h =
    let tens : wrapped_add 48 (z / 10) ≡ 48 + z / 10 = omega (arith, h.0) in
    let ones : wrapped_add 48 (z % 10) ≡ 48 + z % 10 = omega (arith, h.0) in
    λ i. tens i ∷ ones i ∷ added zs h.1 i

two : (z : ℕ) → z < 100 → (48 + z / 10) ∷ (48 + z % 10) ∷ [] ≡ left_filled 48 2 (digits 10 false z)
unfolding digits
two z below =
    (bytes_eq-Decides ((48 + z / 10) ∷ (48 + z % 10) ∷ []) (left_filled 48 2 (digits 10 false z))).0
    (agree_below_at (λ i. bytes_eq ((48 + i / 10) ∷ (48 + i % 10) ∷ []) (left_filled 48 2 (digits 10 false i))) (λ _. true) 100 z refl below)

four : (x : ℕ) → x < 10 ^ 4 → left_filled 48 2 (digits 10 false (x / 100)) ++ left_filled 48 2 (digits 10 false (x % 100)) ≡ left_filled 48 4 (digits 10 false x)
four x below = fixed_two 2 2 x 100 refl (omega arith) (omega arith) (omega arith) (omega arith) (omega arith) below

-- the two digits of each of four lanes are eight digits
eight : (n : ℕ) → n < 10 ^ 8 → glyphs (n / 10000 / 100 ∷ n / 10000 % 100 ∷ n % 10000 / 100 ∷ n % 10000 % 100 ∷ []) ≡ left_filled 48 8 (digits 10 false n)
eight n below =
    let a = two (n / 10000 / 100) (omega arith) in
    let b = two (n / 10000 % 100) (omega arith) in
    let c = two (n % 10000 / 100) (omega arith) in
    let d = two (n % 10000 % 100) (omega arith) in
    (λ i. a i ++ (b i ++ (c i ++ d i)))
    ∙ sym (Rattle.std.proofs.Common.append_assoc (left_filled 48 2 (digits 10 false (n / 10000 / 100))) (left_filled 48 2 (digits 10 false (n / 10000 % 100))) _)
    ∙ (λ i. four (n / 10000) (omega arith) i ++ four (n % 10000) (omega arith) i)
    ∙ fixed_two 4 4 n 10000 refl (omega arith) (omega arith) (omega arith) (omega arith) (omega arith) below

-- the digits of both numbers, from lanes of two digits
pub eights_are : (a b : ℕ) → a < 10 ^ 8 → b < 10 ^ 8 →
    let zs = a / 10000 / 100 ∷ a / 10000 % 100 ∷ a % 10000 / 100 ∷ a % 10000 % 100 ∷ b / 10000 / 100 ∷ b / 10000 % 100 ∷ b % 10000 / 100 ∷ b % 10000 % 100 ∷ [] in
    zip2 wrapped_add (replicate 16 48) (digits_l 256 16 (number_l 65536 (map lane zs))) ≡ left_filled 48 8 (digits 10 false a) ++ left_filled 48 8 (digits 10 false b)
eights_are a b small_a small_b =
    let zs = a / 10000 / 100 ∷ a / 10000 % 100 ∷ a % 10000 / 100 ∷ a % 10000 % 100 ∷ b / 10000 / 100 ∷ b / 10000 % 100 ∷ b % 10000 / 100 ∷ b % 10000 % 100 ∷ [] in
    let few : AllBelowBase 100 zs = omega arith in
    ap (zip2 wrapped_add (replicate 16 48)) (bytes_of zs few) ∙ added zs few ∙ (λ i. eight a small_a i ++ eight b small_b i)
