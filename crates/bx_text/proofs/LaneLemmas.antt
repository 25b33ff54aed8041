-- A line's digits and text, lane by lane.
use Rattle.std.proofs.Common.{◌≡◌, ℕ, ◌+◌, ◌-◌, ◌*◌, ◌/◌, ◌%◌, ◌^◌, ◌<◌, true, false, cond, leb, eqb, List, [], ◌∷◌, ◌++◌, map, length, get_or, replicate, bit_and, Fits, w8, refl, sym, ap, ◌∙◌, subst, arith}
use Rattle.std.specs.Fmt.{digit_glyph}
use Rattle.std.specs.List.{flat_map}
use Rattle.std.proofs.lemmas.Bool.{agree_below_at, eqb-true}
use Rattle.std.proofs.lemmas.Nat.{and_mask}
use Rattle.std.proofs.lemmas.List.{length-map, get_or-map, ext_get_or}
use Rattle.std.proofs.lemmas.Simd.{zip2_splat, Each1-get_or, Each1-from_get_or, SwzOk, SwzOk-from_below, swz_l, length-swz_l, get_or-swz_l_below, pick_l_whole}
use lib.Lanes.{zip2, Each1, pick_l, sel_l, top}
use Rattle.bx_text.specs.Dump.{pair_of, shown_byte}
use Rattle.bx_text.specs.private.Dump.{hex_columns}

abbrev less : ℕ → ℕ → ℕ
less a b = (a + (2 ^ 8 - b)) % 2 ^ 8

abbrev plus : ℕ → ℕ → ℕ
plus a b = (a + b) % 2 ^ 8

abbrev under : ℕ → ℕ → ℕ
under a b = cond (leb a b) 255 0

-- what the operations on lanes make of n values
abbrev pub shown_lanes : List ℕ → ℕ → List ℕ
shown_lanes v n = sel_l (map (top 7) (zip2 under (zip2 less v (replicate n 32)) (replicate n 94))) v (replicate n 46)

-- the digits, one for each value below 16
abbrev pub digits_below : List ℕ
digits_below = 48 ∷ 49 ∷ 50 ∷ 51 ∷ 52 ∷ 53 ∷ 54 ∷ 55 ∷ 56 ∷ 57 ∷ 97 ∷ 98 ∷ 99 ∷ 100 ∷ 101 ∷ 102 ∷ []

digit_at : (k : ℕ) → k < 16 → get_or digits_below k 0 ≡ digit_glyph false k
digit_at k small = eqb-true _ _ (agree_below_at (λ j. eqb (get_or digits_below j 0) (digit_glyph false j)) (λ _. true) 16 k refl small)

-- a look-up of each value
pub looks_inside : (v : List ℕ) → length v ≡ 16 → ((k : ℕ) → k < 16 → get_or v k 0 < 16) → SwzOk w8 16 16 0 v
looks_inside v long small = SwzOk-from_below w8 16 1 16 0 v refl (omega (arith, long)) (Each1-from_get_or (λ j. j < 16) v 0 (λ k inside. small k (omega (arith, inside, long))))

pub glyphs_are : (v : List ℕ) → length v ≡ 16 → ((k : ℕ) → k < 16 → get_or v k 0 < 16) → swz_l w8 16 digits_below 0 v ≡ map (digit_glyph false) v
glyphs_are v long small =
    ext_get_or 0 (swz_l w8 16 digits_below 0 v) (map (digit_glyph false) v) (length-swz_l w8 16 digits_below 0 v ∙ sym (length-map v (digit_glyph false))) (λ k lt.
    let inside : k < 16 = omega (arith, lt, length-swz_l w8 16 digits_below 0 v, long) in
    let place : 16 * ((0 + k) / 16) + get_or v k 0 ≡ get_or v k 0 = omega (arith, inside) in
    get_or-swz_l_below w8 16 digits_below 0 v k (omega (arith, inside, long)) (small k inside) ∙ ap (λ m. get_or digits_below m 0) place ∙ digit_at (get_or v k 0) (small k inside)
    ∙ sym (get_or-map (digit_glyph false) v k 0 0 (omega (arith, inside, long))))

one_shown : (x : ℕ) → x < 256 → get_or (shown_lanes (x ∷ []) 1) 0 0 ≡ shown_byte x
one_shown x small = eqb-true _ _ (agree_below_at (λ y. eqb (get_or (shown_lanes (y ∷ []) 1) 0 0) (shown_byte y)) (λ _. true) 256 x refl small)

all_shown : (v : List ℕ) → Each1 (Fits w8) v → shown_lanes v (length v) ≡ map shown_byte v
all_shown [] fits = refl
all_shown (x ∷ v) fits = λ i. one_shown x fits.0.fits i ∷ all_shown v fits.1 i

pub shown_are : (v : List ℕ) → length v ≡ 16 → Each1 (Fits w8) v → shown_lanes v 16 ≡ map shown_byte v
shown_are v long fits = (λ i. shown_lanes v (sym long i)) ∙ all_shown v fits

-- the upper and the lower half of each lane
pub high_are : (v : List ℕ) → length v ≡ 16 → zip2 (λ a b. a / 2 ^ b) v (replicate 16 4) ≡ map (λ x. x / 16) v
high_are v long = zip2_splat (λ a b. a / 2 ^ b) v 16 4 long

pub low_are : (v : List ℕ) → length v ≡ 16 → zip2 bit_and v (replicate 16 15) ≡ map (λ x. x % 16) v
low_are v long = zip2_splat bit_and v 16 15 long ∙ (λ i. map (λ x. and_mask x 4 i) v)

-- a half is below 16
pub half_small : (g : ℕ → ℕ) (v halves : List ℕ) → length v ≡ 16 → Each1 (Fits w8) v → halves ≡ map g v → ((x : ℕ) → x < 256 → g x < 16) →
    (k : ℕ) → k < 16 → get_or halves k 0 < 16
half_small g v halves long fits is small k inside =
    let lane : get_or halves k 0 ≡ g (get_or v k 0) = ap (λ l. get_or l k 0) is ∙ get_or-map g v k 0 0 (omega (arith, long)) in
    omega (arith, lane, small (get_or v k 0) (Each1-get_or (Fits w8) v k 0 (omega (arith, long)) fits).fits)

-- the digits of each byte side by side
abbrev pub pair_places : List ℕ
pair_places = 0 ∷ 16 ∷ 1 ∷ 17 ∷ 2 ∷ 18 ∷ 3 ∷ 19 ∷ 4 ∷ 20 ∷ 5 ∷ 21 ∷ 6 ∷ 22 ∷ 7 ∷ 23 ∷ 8 ∷ 24 ∷ 9 ∷ 25 ∷ 10 ∷ 26 ∷ 11 ∷ 27 ∷ 12 ∷ 28 ∷ 13 ∷ 29 ∷ 14 ∷ 30 ∷ 15 ∷ 31 ∷ []

pub pairs_are : (v high low : List ℕ) → length v ≡ 16 → high ≡ map (digit_glyph false) (map (λ x. x / 16) v) → low ≡ map (digit_glyph false) (map (λ x. x % 16) v) →
    pick_l 0 (high ++ low) pair_places ≡ flat_map (pair_of false) v
pairs_are v high low long h l =
    (λ i. pick_l 0 (h i ++ l i) pair_places)
    ∙ subst (λ w. pick_l 0 (map (digit_glyph false) (map (λ x. x / 16) w) ++ map (digit_glyph false) (map (λ x. x % 16) w)) pair_places ≡ flat_map (pair_of false) w) (pick_l_whole 0 v 16 long) refl

-- groups of four digits, and a space after each: 32 characters of them, and 8
abbrev pub front_places : List ℕ
front_places =
    0 ∷ 1 ∷ 2 ∷ 3 ∷ 32 ∷ 4 ∷ 5 ∷ 6 ∷ 7 ∷ 32 ∷ 8 ∷ 9 ∷ 10 ∷ 11 ∷ 32 ∷ 12 ∷ 13 ∷ 14 ∷ 15 ∷ 32 ∷ 16 ∷ 17 ∷ 18 ∷ 19 ∷ 32 ∷ 20 ∷ 21 ∷ 22 ∷ 23 ∷ 32 ∷ 24 ∷ 25 ∷ []

abbrev pub back_places : List ℕ
back_places = 26 ∷ 27 ∷ 32 ∷ 28 ∷ 29 ∷ 30 ∷ 31 ∷ 32 ∷ []

pub columns_are : (v digits : List ℕ) → length v ≡ 16 → digits ≡ flat_map (pair_of false) v →
    pick_l 0 (digits ++ replicate 32 32) front_places ++ pick_l 0 (digits ++ replicate 32 32) back_places ≡ hex_columns false 2 v 40
columns_are v digits long is =
    (λ i. pick_l 0 (is i ++ replicate 32 32) front_places ++ pick_l 0 (is i ++ replicate 32 32) back_places)
    ∙ subst (λ w. pick_l 0 (flat_map (pair_of false) w ++ replicate 32 32) front_places ++ pick_l 0 (flat_map (pair_of false) w ++ replicate 32 32) back_places ≡ hex_columns false 2 w 40) (pick_l_whole 0 v 16 long) refl
