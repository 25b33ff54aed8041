-- From the lanes of one load to the bytes that print.
use Rattle.std.proofs.Common.{◌≡◌, ℕ, ◌+◌, ◌-◌, ◌%◌, ◌^◌, ◌<◌, ◌≤◌, ltb, leb, cond, Bool, true, false, List, [], ◌∷◌, map, length, take, drop, get_or, replicate, bit_and, Fits, w8, refl, sym, ap, ◌∙◌, arith, inl, inr}
use Rattle.std.specs.Prelude.{not, ◌&&◌}
use Rattle.std.specs.List.{prefix_len}
use Rattle.std.proofs.lemmas.Bool.{agree_below_at, not-true, not-false, cases_eq, eq-eqb, ne_eqb, cond-true, cond-false}
use Rattle.std.proofs.lemmas.Simd.{map-map, mask_l-mod, length-chunk, get_or-chunk, zip2_splat, zip2_splat_left, get_or-zip2, length-zip2, chunk-fits, leading_from_mask_l, trailing_mask_l}
use Rattle.std.proofs.lemmas.List.{length-map, get_or-map, length-take}
use Rattle.std.proofs.lemmas.List.Sums.{prefix_len-le-length, prefix_len_passes, prefix_len_stops}
use lib.Lanes.{chunk, zip2, mask_l, top, Each1}
use Rattle.bx_text.specs.Ascii.{is_printable}
use Rattle.bx_dump_columns.specs.Printing.{first_set, four_print}

-- a byte less 0x20, and whether that is more than there are printable bytes
abbrev pub less : ℕ → ℕ → ℕ
less a b = (a + (2 ^ 8 - b)) % 2 ^ 8

abbrev pub over : ℕ → ℕ → ℕ
over a b = cond (ltb a b) 255 0

abbrev pub under : ℕ → ℕ → ℕ
under a b = cond (leb a b) 255 0

abbrev pub is_other : ℕ → Bool
is_other x = ltb 94 (less x 32)

abbrev pub is_inside : ℕ → Bool
is_inside x = leb (less x 32) 94

pub inside_is : (x : ℕ) → x < 256 → is_inside x ≡ is_printable x
inside_is x small = agree_below_at is_inside is_printable 256 x refl small

set_is : (p : ℕ → Bool) (v : List ℕ) (n : ℕ) → length v ≡ n → n ≤ 64 → first_set (mask_l (map p v)) n ≡ prefix_len (λ x. not (p x)) v
set_is p v n long few =
    elim (cases_eq (mask_l (map p v)) 0) [
      | inl none ↦ cond-true _ _ _ (eq-eqb _ _ none) ∙ sym (leading_from_mask_l p v none ∙ long)
      | inr some ↦ cond-false _ _ _ (ne_eqb _ _ some) ∙ trailing_mask_l p 64 v (omega arith) (omega arith)
    ]

-- the same count by two tests that agree on bytes
same_count : (p q : ℕ → Bool) → ((x : ℕ) → x < 256 → p x ≡ q x) → (v : List ℕ) → Each1 (Fits w8) v → prefix_len p v ≡ prefix_len q v
same_count p q agree [] fits = refl
same_count p q agree (x ∷ xs) fits = rw (agree x fits.0.fits, same_count p q agree xs fits.1) refl

-- the comparisons of a load less a splat
pub above_is : (v : List ℕ) → length v ≡ 16 → zip2 over (replicate 16 94) (zip2 less v (replicate 16 32)) ≡ map (λ x. cond (is_other x) 255 0) v
above_is v long =
    let down = zip2_splat less v 16 32 long in
    zip2_splat_left over 94 16 (zip2 less v (replicate 16 32)) (ap length down ∙ length-map v (λ x. less x 32) ∙ long)
    ∙ ap (map (over 94)) down ∙ map-map (over 94) (λ x. less x 32) v

pub inside_lanes : (v : List ℕ) → length v ≡ 32 → zip2 under (zip2 less v (replicate 32 32)) (replicate 32 94) ≡ map (λ x. cond (is_inside x) 255 0) v
inside_lanes v long =
    let down = zip2_splat less v 32 32 long in
    zip2_splat under (zip2 less v (replicate 32 32)) 32 94 (ap length down ∙ length-map v (λ x. less x 32) ∙ long)
    ∙ ap (map (λ a. cond (leb a 94) 255 0)) down ∙ map-map (λ a. cond (leb a 94) 255 0) (λ x. less x 32) v

-- the first lane above
pub printing_is : (bytes : List ℕ) (at r : ℕ) (z : List ℕ) → at + 16 ≤ length bytes → ((k : ℕ) → Fits w8 (get_or bytes k 0)) →
    z ≡ map (λ x. cond (is_other x) 255 0) (chunk at 16 bytes) → r ≡ first_set (mask_l (map (top 7) z) % 2 ^ 64) 16 → r ≡ prefix_len is_printable (take 16 (drop at bytes))
printing_is bytes at r z room fits lanes found =
    let v = chunk at 16 bytes in
    let long : length v ≡ 16 = length-chunk at 16 bytes room in
    let tops : map (top 7) z ≡ map (λ x. top 7 (cond (is_other x) 255 0)) v = ap (map (top 7)) lanes ∙ map-map (top 7) (λ x. cond (is_other x) 255 0) v in
    let mask = ap (λ l. mask_l l % 2 ^ 64) tops ∙ mask_l-mod (map (λ x. top 7 (cond (is_other x) 255 0)) v) 64 (omega (arith, length-map v (λ x. top 7 (cond (is_other x) 255 0)), long)) in
    found ∙ ap (λ m. first_set m 16) mask ∙ set_is (λ x. top 7 (cond (is_other x) 255 0)) v 16 long (omega arith)
    ∙ same_count (λ x. not (top 7 (cond (is_other x) 255 0))) is_printable
    (λ x small. agree_below_at (λ b. not (top 7 (cond (is_other b) 255 0))) is_printable 256 x refl small) v (chunk-fits w8 at 16 bytes fits)

-- lane k of a load, as the comparison leaves it
lane_of : (bytes : List ℕ) (at k : ℕ) (z : List ℕ) → at + 32 ≤ length bytes → k < 32 → z ≡ map (λ x. cond (is_inside x) 255 0) (chunk at 32 bytes) →
    get_or z k 0 ≡ cond (is_inside (get_or bytes (at + k) 0)) 255 0
lane_of bytes at k z room inside lanes =
    let v = chunk at 32 bytes in
    let long : length v ≡ 32 = length-chunk at 32 bytes room in
    ap (λ l. get_or l k 0) lanes ∙ get_or-map (λ x. cond (is_inside x) 255 0) v k 0 0 (omega (arith, long)) ∙ ap (λ x. cond (is_inside x) 255 0) (get_or-chunk at 32 bytes k 0 inside)

all_of : (a b c d : Bool) → top 7 (bit_and (bit_and (bit_and (cond a 255 0) (cond b 255 0)) (cond c 255 0)) (cond d 255 0)) ≡ (a && (b && (c && d)))
all_of true true true true = refl
all_of true true true false = refl
all_of true true false true = refl
all_of true true false false = refl
all_of true false true true = refl
all_of true false true false = refl
all_of true false false true = refl
all_of true false false false = refl
all_of false true true true = refl
all_of false true true false = refl
all_of false true false true = refl
all_of false true false false = refl
all_of false false true true = refl
all_of false false true false = refl
all_of false false false true = refl
all_of false false false false = refl

-- four loads, each one byte on
module _ (bytes : List ℕ) (at r : ℕ) (a b c d : List ℕ) (room : at + 35 ≤ length bytes) (fits : (k : ℕ) → Fits w8 (get_or bytes k 0))
    (is_a : a ≡ map (λ x. cond (is_inside x) 255 0) (chunk at 32 bytes)) (is_b : b ≡ map (λ x. cond (is_inside x) 255 0) (chunk (at + 1) 32 bytes))
    (is_c : c ≡ map (λ x. cond (is_inside x) 255 0) (chunk (at + 2) 32 bytes)) (is_d : d ≡ map (λ x. cond (is_inside x) 255 0) (chunk (at + 3) 32 bytes))
    (found : r ≡ first_set (mask_l (map (top 7) (zip2 bit_and (zip2 bit_and (zip2 bit_and a b) c) d)) % 2 ^ 64) 32) where
  abbrev all : List ℕ
  all = zip2 bit_and (zip2 bit_and (zip2 bit_and a b) c) d

  size_of : (at : ℕ) (z : List ℕ) → at + 32 ≤ length bytes → z ≡ map (λ x. cond (is_inside x) 255 0) (chunk at 32 bytes) → length z ≡ 32
  size_of at z room is = ap length is ∙ length-map (chunk at 32 bytes) (λ x. cond (is_inside x) 255 0) ∙ length-chunk at 32 bytes room

  long_a : length a ≡ 32
  long_a = size_of at a (omega arith) is_a

  long_b : length b ≡ 32
  long_b = size_of (at + 1) b (omega arith) is_b

  long_c : length c ≡ 32
  long_c = size_of (at + 2) c (omega arith) is_c

  long_d : length d ≡ 32
  long_d = size_of (at + 3) d (omega arith) is_d

  long_ab : length (zip2 bit_and a b) ≡ 32
  long_ab = length-zip2 bit_and a b (omega (arith, long_a, long_b)) ∙ long_a

  long_abc : length (zip2 bit_and (zip2 bit_and a b) c) ≡ 32
  long_abc = length-zip2 bit_and (zip2 bit_and a b) c (omega (arith, long_ab, long_c)) ∙ long_ab

  long : length all ≡ 32
  long = length-zip2 bit_and (zip2 bit_and (zip2 bit_and a b) c) d (omega (arith, long_abc, long_d)) ∙ long_abc

  lane : (k : ℕ) → k < 32 → top 7 (get_or all k 0) ≡ four_print bytes (at + k)
  lane k inside =
      let last = get_or-zip2 bit_and (zip2 bit_and (zip2 bit_and a b) c) d k 0 0 0 (omega (arith, long_abc)) (omega (arith, long_d)) in
      let third = get_or-zip2 bit_and (zip2 bit_and a b) c k 0 0 0 (omega (arith, long_ab)) (omega (arith, long_c)) in
      let second = get_or-zip2 bit_and a b k 0 0 0 (omega (arith, long_a)) (omega (arith, long_b)) in
      let lane_a = lane_of bytes at k a (omega arith) inside is_a in
      let lane_b = lane_of bytes (at + 1) k b (omega arith) inside is_b in
      let lane_c = lane_of bytes (at + 2) k c (omega arith) inside is_c in
      let lane_d = lane_of bytes (at + 3) k d (omega arith) inside is_d in
      let one : at + 1 + k ≡ at + k + 1 = omega arith in
      let two : at + 2 + k ≡ at + k + 2 = omega arith in
      let three : at + 3 + k ≡ at + k + 3 = omega arith in
      let from_a = inside_is (get_or bytes (at + k) 0) (fits (at + k)).fits in
      let from_b = inside_is (get_or bytes (at + k + 1) 0) (fits (at + k + 1)).fits in
      let from_c = inside_is (get_or bytes (at + k + 2) 0) (fits (at + k + 2)).fits in
      let from_d = inside_is (get_or bytes (at + k + 3) 0) (fits (at + k + 3)).fits in
      rw (last, third, second, lane_a, lane_b, lane_c, lane_d, one, two, three, from_a, from_b, from_c, from_d) (all_of (is_printable (get_or bytes (at + k) 0)) (is_printable (get_or bytes (at + k + 1) 0)) (is_printable (get_or bytes (at + k + 2) 0)) (is_printable (get_or bytes (at + k + 3) 0)))

  counted : r ≡ prefix_len (λ x. not (top 7 x)) all
  counted =
      let mask = mask_l-mod (map (top 7) all) 64 (omega (arith, length-map all (top 7), long)) in
      found ∙ ap (λ m. first_set m 32) mask ∙ set_is (top 7) all 32 long (omega arith)

  pub four_most : r ≤ 32
  four_most = omega (arith, counted, long, prefix_len-le-length (λ x. not (top 7 x)) all)

  pub four_none : (k : ℕ) → at ≤ k → k < at + r → four_print bytes k ≡ false
  four_none k from to =
      let back : at + (k - at) ≡ k = omega arith in
      let passes = not-true _ (prefix_len_passes (λ x. not (top 7 x)) all (k - at) 0 (omega (arith, counted))) in
      rw back at (sym (lane (k - at) (omega (arith, four_most))) ∙ passes)

  pub four_found : r < 32 → four_print bytes (at + r) ≡ true
  four_found short =
      let stops : top 7 (get_or all (prefix_len (λ x. not (top 7 x)) all) 0) ≡ true = not-false _ (prefix_len_stops (λ x. not (top 7 x)) all 0 (omega (arith, counted, long))) in
      sym (lane r short) ∙ rw (← counted) at stops

-- no more bytes of a load print than it has
pub count_most : (n done r : ℕ) (xs : List ℕ) → r ≡ prefix_len is_printable (take n (drop done xs)) → r ≤ n
count_most n done r xs is = omega (arith, is, prefix_len-le-length is_printable (take n (drop done xs)), length-take n (drop done xs))
