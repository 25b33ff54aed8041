-- od's octal values of two bytes, by the digits of their bytes.
use Rattle.std.proofs.Common.{◌≡◌, ℕ, zero, suc, ◌+◌, ◌*◌, ◌/◌, ◌%◌, ◌^◌, ◌<◌, ◌≤◌, List, [], ◌∷◌, ◌++◌, map, length, replicate, get_or, bit_and, false, refl, sym, ap, ◌∙◌, subst, arith}
use Rattle.std.specs.Fmt.{digits}
use Rattle.std.proofs.lemmas.Nat.{and_mask}
use Rattle.std.proofs.lemmas.List.{length-map}
use Rattle.std.proofs.lemmas.Simd.{zip2_splat, map-map, pick_l_whole}
use lib.Lanes.{zip2, pick_l}
use Rattle.bx_text.specs.Field.{left_filled}
use Rattle.bx_dump_columns.specs.Cells.{by_twos, octal_cells}
use Rattle.bx_dump_columns.specs.Lines.{in_lines}
use Rattle.bx_dump_columns.specs.Values.{value_text}
use Rattle.bx_dump_columns.specs.declared.od.options.Size.TheVariants.{Two}
use Rattle.bx_dump_columns.specs.declared.od.options.NumForm.TheVariants as form
use Rattle.bx_dump_columns.specs.declared.od.options.Kind.TheVariants.{Number}
use Rattle.bx_dump_columns.proofs.DigitParts.{fixed_parts, one_octal}
use Rattle.bx_dump_columns.proofs.LinesLemmas.{in_lines-append, in_lines-none, in_lines-one}

-- a sum, and twice the double, of lanes
abbrev pub sum : ℕ → ℕ → ℕ
sum a b = (a + b) % 2 ^ 8

abbrev pub raised : ℕ → ℕ → ℕ
raised a b = (a * 2 ^ b) % 2 ^ 8

sum_is : (m : ℕ) → (m % 8 + 48) % 256 ≡ 48 + m % 8
sum_is m = omega arith

raised_is : (m : ℕ) → (m % 2 * 4) % 256 ≡ 4 * (m % 2)
raised_is m = omega arith

-- one digit of each lane
pub digits_are : (at : ℕ) (v : List ℕ) → length v ≡ 16 →
    zip2 sum (zip2 bit_and (zip2 (λ a b. a / 2 ^ b) v (replicate 16 at)) (replicate 16 7)) (replicate 16 48) ≡ map (λ b. 48 + b / 2 ^ at % 8) v
digits_are at v long =
    let down = map (λ x. x / 2 ^ at) v in
    let three = map (λ x. x / 2 ^ at % 8) v in
    let masked : zip2 bit_and down (replicate 16 7) ≡ three =
    zip2_splat bit_and down 16 7 (length-map v (λ x. x / 2 ^ at) ∙ long) ∙ map-map (λ x. bit_and x 7) (λ x. x / 2 ^ at) v ∙ (λ i. map (λ x. and_mask (x / 2 ^ at) 3 i) v) in
    ap (λ l. zip2 sum (zip2 bit_and l (replicate 16 7)) (replicate 16 48)) (zip2_splat (λ a b. a / 2 ^ b) v 16 at long)
    ∙ ap (λ l. zip2 sum l (replicate 16 48)) masked
    ∙ zip2_splat sum three 16 48 (length-map v (λ x. x / 2 ^ at % 8) ∙ long) ∙ map-map (λ x. sum x 48) (λ x. x / 2 ^ at % 8) v
    ∙ (λ i. map (λ x. sum_is (x / 2 ^ at) i) v)

pub last_are : (v : List ℕ) → length v ≡ 16 → zip2 raised (zip2 bit_and v (replicate 16 1)) (replicate 16 2) ≡ map (λ b. 4 * (b % 2)) v
last_are v long =
    let one = map (λ x. x % 2) v in
    ap (λ l. zip2 raised l (replicate 16 2)) (zip2_splat bit_and v 16 1 long ∙ (λ i. map (λ x. and_mask x 1 i) v))
    ∙ zip2_splat raised one 16 2 (length-map v (λ x. x % 2) ∙ long) ∙ map-map (λ x. raised x 2) (λ x. x % 2) v ∙ (λ i. map (λ x. raised_is x i) v)

-- the digits of both bytes side by side
abbrev pub both_places : List ℕ
both_places = 0 ∷ 17 ∷ 2 ∷ 19 ∷ 4 ∷ 21 ∷ 6 ∷ 23 ∷ 8 ∷ 25 ∷ 10 ∷ 27 ∷ 12 ∷ 29 ∷ 14 ∷ 31 ∷ []

pub both_are : (low high : ℕ) (v : List ℕ) → length v ≡ 16 →
    pick_l 0 (map (λ b. 48 + b / 2 ^ low % 8) v ++ map (λ b. 48 + b / 2 ^ high % 8) v) both_places ≡ by_twos (λ a b. (48 + a / 2 ^ low % 8) ∷ (48 + b / 2 ^ high % 8) ∷ []) v
both_are low high v long =
    subst (λ l. pick_l 0 (map (λ b. 48 + b / 2 ^ low % 8) l ++ map (λ b. 48 + b / 2 ^ high % 8) l) both_places ≡ by_twos (λ a b. (48 + a / 2 ^ low % 8) ∷ (48 + b / 2 ^ high % 8) ∷ []) l) (pick_l_whole 0 v 16 long) refl

-- the digit that both bytes have a part of
abbrev pub part_places : List ℕ
part_places = 1 ∷ 16 ∷ 3 ∷ 16 ∷ 5 ∷ 16 ∷ 7 ∷ 16 ∷ 9 ∷ 16 ∷ 11 ∷ 16 ∷ 13 ∷ 16 ∷ 15 ∷ 16 ∷ []

abbrev pub halves : ℕ → ℕ → List ℕ
halves a b = (48 + a / 64 % 8) ∷ (48 + b / 2 % 8) ∷ []

abbrev pub middles : ℕ → ℕ → List ℕ
middles a b = (48 + (a / 64 % 8 + 4 * (b % 2))) ∷ (48 + b / 2 % 8) ∷ []

abbrev sums : ℕ → ℕ → List ℕ
sums a b = sum (48 + a / 64 % 8) (4 * (b % 2)) ∷ sum (48 + b / 2 % 8) 0 ∷ []

with_part : (a b : ℕ) → ((48 + a / 64 % 8) + 4 * (b % 2)) % 256 ≡ 48 + (a / 64 % 8 + 4 * (b % 2))
with_part a b = omega arith

with_none : (b : ℕ) → ((48 + b / 2 % 8) + 0) % 256 ≡ 48 + b / 2 % 8
with_none b = omega arith

pub middle_are : (v : List ℕ) → length v ≡ 16 → zip2 sum (by_twos halves v) (pick_l 0 (map (λ b. 4 * (b % 2)) v ++ replicate 16 0) part_places) ≡ by_twos middles v
middle_are v long =
    subst (λ l. zip2 sum (by_twos halves l) (pick_l 0 (map (λ b. 4 * (b % 2)) l ++ replicate 16 0) part_places) ≡ by_twos sums l) (pick_l_whole 0 v 16 long) refl
    ∙ (λ i. by_twos (λ a b. with_part a b i ∷ with_none b i ∷ []) v)

-- one digit in front of others
peel : (k d r p : ℕ) → 8 ^ k ≡ p → 8 ^ (1 + k) ≡ 8 * p → 0 < k → k ≤ 60 → d < 8 → r < p → d * p + r < 8 * p →
    left_filled 48 (1 + k) (digits 8 false (d * p + r)) ≡ (48 + d) ∷ left_filled 48 k (digits 8 false r)
peel k d r p e all some le small rest whole =
    let base : 2 ≤ 8 = omega arith in
    let below : r < 8 ^ k = subst (λ q. r < q) (sym e) rest in
    let within : d * 8 ^ k + r < 8 ^ (1 + k) = subst (λ q. d * q + r < 8 ^ (1 + k)) (sym e) (subst (λ q. d * p + r < q) (sym all) whole) in
    ap (λ q. left_filled 48 (1 + k) (digits 8 false (d * q + r))) (sym e) ∙ fixed_parts 8 base k 1 64 d r refl (omega arith) below some (omega arith) small within
    ∙ ap (λ t. t ++ left_filled 48 k (digits 8 false r)) (sym (one_octal d small))

six : (f e d c b a : ℕ) → f < 8 → e < 8 → d < 8 → c < 8 → b < 8 → a < 8 →
    left_filled 48 6 (digits 8 false (f * 32768 + (e * 4096 + (d * 512 + (c * 64 + (b * 8 + a)))))) ≡ (48 + f) ∷ (48 + e) ∷ (48 + d) ∷ (48 + c) ∷ (48 + b) ∷ (48 + a) ∷ []
six f e d c b a below_f below_e below_d below_c below_b below_a =
    peel 5 f (e * 4096 + (d * 512 + (c * 64 + (b * 8 + a)))) 32768 refl refl (omega arith) (omega arith) below_f (omega arith) (omega arith)
    ∙ ap (λ t. (48 + f) ∷ t) (peel 4 e (d * 512 + (c * 64 + (b * 8 + a))) 4096 refl refl (omega arith) (omega arith) below_e (omega arith) (omega arith)
    ∙ ap (λ t. (48 + e) ∷ t) (peel 3 d (c * 64 + (b * 8 + a)) 512 refl refl (omega arith) (omega arith) below_d (omega arith) (omega arith)
    ∙ ap (λ t. (48 + d) ∷ t) (peel 2 c (b * 8 + a) 64 refl refl (omega arith) (omega arith) below_c (omega arith) (omega arith)
    ∙ ap (λ t. (48 + c) ∷ t) (peel 1 b a 8 refl refl (omega arith) (omega arith) below_b (omega arith) (omega arith)
    ∙ ap (λ t. (48 + b) ∷ t) (sym (one_octal a below_a))))))

by_bits : (a b : ℕ) → a < 256 → b < 256 →
    a + 256 * (b + 256 * 0) ≡ b / 128 % 8 * 32768 + (b / 16 % 8 * 4096 + (b / 2 % 8 * 512 + ((a / 64 % 8 + 4 * (b % 2)) * 64 + (a / 8 % 8 * 8 + a / 1 % 8))))
by_bits a b small_a small_b = omega arith

one_value : (at a b : ℕ) → a < 256 → b < 256 → value_text (Number form.Octal Two) at (a ∷ b ∷ []) ≡ octal_cells a b
one_value at a b small_a small_b =
    ap (λ n. 32 ∷ left_filled 48 6 (digits 8 false n)) (by_bits a b small_a small_b)
    ∙ ap (λ t. 32 ∷ t) (six (b / 128 % 8) (b / 16 % 8) (b / 2 % 8) (a / 64 % 8 + 4 * (b % 2)) (a / 8 % 8) (a / 1 % 8) (omega arith) (omega arith) (omega arith) (omega arith) (omega arith) (omega arith))

-- the values of whole pairs of bytes
pub octal_values : (n : ℕ) (bytes : List ℕ) → length bytes ≡ 2 * n → ((k : ℕ) → get_or bytes k 0 < 256) → by_twos octal_cells bytes ≡ in_lines (value_text (Number form.Octal Two)) 2 0 bytes
octal_values n [] long small = sym (in_lines-none (value_text (Number form.Octal Two)) 2 0 (omega arith))
octal_values zero (a ∷ rest) long small = absurd (omega arith)
octal_values (suc n) (a ∷ []) long small = absurd (omega arith)
octal_values (suc n) (a ∷ b ∷ rest) long small =
    let line = value_text (Number form.Octal Two) in
    let first : in_lines line 2 0 (a ∷ b ∷ []) ≡ octal_cells a b =
    in_lines-one line 2 0 (a ∷ b ∷ []) (omega arith) (omega arith) ∙ one_value 0 a b (small 0) (small 1) in
    let others = octal_values n rest (omega arith) (λ k. small (suc (suc k))) in
    sym (in_lines-append line 2 0 1 (a ∷ b ∷ []) rest (omega arith) refl ∙ ap (λ t. t ++ in_lines line 2 2 rest) first ∙ ap (λ t. octal_cells a b ++ t) (sym others))
