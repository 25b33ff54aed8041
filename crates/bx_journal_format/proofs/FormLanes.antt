-- Bytes that have a form, lane by lane.
use Rattle.std.proofs.Common.{◌≡◌, ℕ, zero, suc, ◌+◌, ◌-◌, ◌%◌, ◌^◌, ◌<◌, ◌≤◌, Bool, true, false, cond, leb, ltb, eqb, List, [], ◌∷◌, length, get_or, take, map, replicate, Fits, w8, refl, arith, sym, ap, ◌∙◌, subst}
use Rattle.std.proofs.lemmas.Bool.{agree_below_at, ltb-true, ltb-false}
use Rattle.std.proofs.lemmas.Grind.{common_steps}
use Rattle.std.proofs.lemmas.List.{length-map, take_all}
use Rattle.std.proofs.lemmas.Simd.{zip2_splat_left, map-map, mask_l-mod, none_from_empty_mask}
use lib.Lanes.{zip2, Each1, sel_l, top, mask_l}
use Rattle.bx_read.specs.Digits.{is_hex}
use Rattle.bx_journal_format.specs.Form.{fits}

abbrev pub less : ℕ → ℕ → ℕ
less a b = (a + (2 ^ 8 - b)) % 2 ^ 8

abbrev pub over : ℕ → ℕ → ℕ
over a b = cond (ltb a b) 255 0

abbrev fixed : List ℕ → ℕ → List Bool
fixed f n = map (top 7) (zip2 over (replicate n 0) f)

abbrev apart : List ℕ → List ℕ → ℕ → ℕ → List ℕ
apart v f base n = zip2 less v (sel_l (fixed f n) f (replicate n base))

abbrev most : List ℕ → ℕ → ℕ → List ℕ
most f limit n = sel_l (fixed f n) (replicate n 0) (replicate n limit)

abbrev excess : List ℕ → List ℕ → List ℕ
excess xs ys = zip2 less (sel_l (map (top 7) (zip2 over xs ys)) ys xs) ys

abbrev least : List ℕ → List ℕ → List ℕ
least xs ys = sel_l (map (top 7) (zip2 over xs ys)) xs ys

-- what the operations on lanes make of n bytes
abbrev pub off_lanes : List ℕ → List ℕ → ℕ → List ℕ
off_lanes v f n = least (excess (apart v f 48 n) (most f 9 n)) (excess (apart v f 97 n) (most f 5 n))

-- and of one
abbrev one_excess : ℕ → ℕ → ℕ
one_excess a b = less (cond (top 7 (over a b)) b a) b

abbrev one_least : ℕ → ℕ → ℕ
one_least a b = cond (top 7 (over a b)) a b

abbrev one_lane : Bool → ℕ → ℕ → ℕ
one_lane b c f =
    one_least (one_excess (less c (cond (top 7 (cond b 255 0)) f 48)) (cond (top 7 (cond b 255 0)) 0 9))
    (one_excess (less c (cond (top 7 (cond b 255 0)) f 97)) (cond (top 7 (cond b 255 0)) 0 5))

lane_is : (n : ℕ) (v f : List ℕ) (k : ℕ) → length v ≡ n → length f ≡ n → k < n → get_or (off_lanes v f n) k 0 ≡ one_lane (ltb 0 (get_or f k 0)) (get_or v k 0) (get_or f k 0)
lane_is zero v f k vl fl below = absurd (omega (arith, below))
lane_is (suc n) [] f k vl fl below = absurd (omega (arith, vl))
lane_is (suc n) (c ∷ v) [] k vl fl below = absurd (omega (arith, fl))
lane_is (suc n) (c ∷ v) (x ∷ f) zero vl fl below = refl
lane_is (suc n) (c ∷ v) (x ∷ f) (suc k) vl fl below = lane_is n v f k (omega (arith, vl)) (omega (arith, fl)) (omega (arith, below))

excess_is : (a b : ℕ) → a < 256 → b < 256 → one_excess a b ≡ a - b
excess_is a b small below = go (ltb a b) refl
  where
    go : (t : Bool) → ltb a b ≡ t → less (cond (top 7 (cond t 255 0)) b a) b ≡ a - b
    go true e = omega (arith, ltb-true a b e)
    go false e = omega (arith, ltb-false a b e)

-- a byte that is to be the form's own
same_byte : (c f : ℕ) → c < 256 → f < 256 → 0 < f → one_lane true c f ≤ 0 → c ≡ f
same_byte c f small below some h = omega (arith, least_is, excess_is (less c f) 0 (omega arith) (omega arith), h)
  where
    either : (t : Bool) (a : ℕ) → cond (top 7 (cond t 255 0)) a a ≡ a
    either true a = refl
    either false a = refl

    least_is : one_lane true c f ≡ one_excess (less c f) 0
    least_is = either (ltb (one_excess (less c f) 0) (one_excess (less c f) 0)) (one_excess (less c f) 0)

-- a digit
digit_byte : (c f : ℕ) → c < 256 → one_lane false c f ≤ 0 → is_hex c ≡ true
digit_byte c f small h = by (leb (one_lane false c 0) 0) refl all
  where
    all : (cond (leb (one_lane false c 0) 0) (is_hex c) true) ≡ true
    all = agree_below_at (λ x. cond (leb (one_lane false x 0) 0) (is_hex x) true) (λ _. true) 256 c refl small

    by : (b : Bool) → leb (one_lane false c 0) 0 ≡ b → cond b (is_hex c) true ≡ true → is_hex c ≡ true
    by true e is = is
    by false e is = let none : one_lane false c 0 ≤ 0 = h in absurd (grind (arith, common_steps))

pub lane_fits : (v f : List ℕ) (k : ℕ) → length v ≡ 16 → length f ≡ 16 → k < 16 → get_or v k 0 < 256 → get_or f k 0 < 256 → get_or (off_lanes v f 16) k 0 ≤ 0 → fits (get_or v k 0) (get_or f k 0) ≡ true
lane_fits v f k vl fl inside small below h =
    by (ltb 0 (get_or f k 0)) refl (subst (λ n. n ≤ 0) (lane_is 16 v f k vl fl inside) h)
  where
    same : get_or v k 0 ≡ get_or f k 0 → eqb (get_or v k 0) (get_or f k 0) ≡ true
    same e = grind (arith, common_steps)

    by : (b : Bool) → ltb 0 (get_or f k 0) ≡ b → one_lane b (get_or v k 0) (get_or f k 0) ≤ 0
        → cond b (eqb (get_or v k 0) (get_or f k 0)) (is_hex (get_or v k 0)) ≡ true
    by true e small_lane = same (same_byte (get_or v k 0) (get_or f k 0) small below (ltb-true 0 (get_or f k 0) e) small_lane)
    by false e small_lane = digit_byte (get_or v k 0) (get_or f k 0) small small_lane

pub byte_small : (v : List ℕ) (i : ℕ) → Each1 (Fits w8) v → get_or v i 0 < 256
byte_small [] i h = omega arith
byte_small (x ∷ xs) zero h = h.0.fits
byte_small (x ∷ xs) (suc i) h = byte_small xs i h.1

top_is : (b : Bool) → top 7 (cond b 255 0) ≡ b
top_is true = refl
top_is false = refl

-- no lane is above 0
pub all_zero : (v : List ℕ) → length v ≡ 16 → mask_l (map (top 7) (zip2 over (replicate 16 0) v)) % 2 ^ 64 ≡ 0 → (k : ℕ) → k < 16 → get_or v k 0 ≤ 0
all_zero v long none k inside =
    let p : ℕ → Bool = λ x. top 7 (over 0 x) in
    let lanes : map (top 7) (zip2 over (replicate 16 0) v) ≡ map p v = ap (map (top 7)) (zip2_splat_left over 0 16 v long) ∙ map-map (top 7) (over 0) v in
    let mask : mask_l (map p v) ≡ 0 = sym (ap (λ l. mask_l l % 2 ^ 64) lanes ∙ mask_l-mod (map p v) 64 (omega (arith, length-map v p, long))) ∙ none in
    let whole : mask_l (map p (take 16 v)) ≡ 0 = ap (λ l. mask_l (map p l)) (take_all 16 v (omega (arith, long))) ∙ mask in
    let not_over : ltb 0 (get_or v k 0) ≡ false = sym (top_is (ltb 0 (get_or v k 0))) ∙ none_from_empty_mask p v 0 16 0 (omega (arith, long)) whole k (omega arith) inside in
    ltb-false 0 (get_or v k 0) not_over
