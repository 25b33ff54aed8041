-- The digits of 16 bytes, and how digits stand in columns, lane by lane.
use Rattle.std.proofs.Common.{◌≡◌, ℕ, ◌+◌, ◌*◌, ◌/◌, ◌%◌, ◌^◌, ◌<◌, List, [], ◌∷◌, ◌++◌, map, length, get_or, replicate, bit_and, Fits, w8, cond, leb, false, eqb, eqb-true, true, refl, sym, ap, ◌∙◌, subst, arith}
use Rattle.std.specs.Prelude.{Bool, codes}
use Rattle.std.specs.Fmt.{digit_glyph}
use Rattle.std.specs.List.{flat_map, range_with_len}
use Rattle.std.proofs.lemmas.Bool.{agree_below, agree_below_at}
use Rattle.std.proofs.lemmas.Nat.{and_mask}
use Rattle.std.proofs.lemmas.Simd.{zip2_splat, map-map, Each1-get_or, Each1-from_get_or, SwzOk, SwzOk-from_below, swz_l, length-swz_l, get_or-swz_l_below, pick_l_whole}
use Rattle.std.proofs.lemmas.List.{length-map, get_or-map, ext_get_or}
use lib.Lanes.{zip2, Each1, pick_l, sel_l, top}
use Rattle.bx_text.specs.Dump.{pair_of, shown_byte}
use Rattle.bx_dump_columns.specs.Cells.{piece_at}
use Rattle.bx_dump_columns.specs.Hexdump.{canon_columns}
use Rattle.bx_dump_columns.proofs.LaneLemmas.{less, under, is_inside, inside_is}

-- the upper and the lower half of each lane
pub high_is : (v : List ℕ) → length v ≡ 16 → zip2 (λ a b. a / 2 ^ b) v (replicate 16 4) ≡ map (λ x. x / 16) v
high_is v long = zip2_splat (λ a b. a / 2 ^ b) v 16 4 long

pub low_is : (v : List ℕ) → length v ≡ 16 → zip2 bit_and v (replicate 16 15) ≡ map (λ x. x % 16) v
low_is v long = zip2_splat bit_and v 16 15 long ∙ (λ i. map (λ x. and_mask x 4 i) v)

pub low_small : (x : ℕ) → x < 256 → x % 16 < 16
low_small x small = omega arith

pub high_small : (x : ℕ) → x < 256 → x / 16 < 16
high_small x small = omega arith

-- a look-up of each lane
module _ (g : ℕ → ℕ) (v js : List ℕ) (long : length v ≡ 16) (fits : Each1 (Fits w8) v) (is : js ≡ map g v) (small : (x : ℕ) → x < 256 → g x < 16) where
  size : length js ≡ 16
  size = ap length is ∙ length-map v g ∙ long

  lane : (k : ℕ) → k < 16 → get_or js k 0 ≡ g (get_or v k 0)
  lane k inside = ap (λ l. get_or l k 0) is ∙ get_or-map g v k 0 0 (omega (arith, long))

  below : (k : ℕ) → k < 16 → get_or js k 0 < 16
  below k inside = omega (arith, lane k inside, small (get_or v k 0) (Each1-get_or (Fits w8) v k 0 (omega (arith, long)) fits).fits)

  pub looks_inside : SwzOk w8 16 16 0 js
  looks_inside = SwzOk-from_below w8 16 1 16 0 js refl (omega (arith, size)) (Each1-from_get_or (λ j. j < 16) js 0 (λ k lt. below k (omega (arith, size))))

  pub looked_up : (t : List ℕ) (f : ℕ → ℕ) → ((k : ℕ) → k < 16 → get_or t k 0 ≡ f k) → swz_l w8 16 t 0 js ≡ map (λ x. f (g x)) v
  looked_up t f table =
      ext_get_or 0 (swz_l w8 16 t 0 js) (map (λ x. f (g x)) v) (length-swz_l w8 16 t 0 js ∙ size ∙ sym (length-map v (λ x. f (g x)) ∙ long)) (λ k lt.
      let inside : k < 16 = omega (arith, length-swz_l w8 16 t 0 js, size) in
      let place : 16 * ((0 + k) / 16) + get_or js k 0 ≡ get_or js k 0 = omega arith in
      get_or-swz_l_below w8 16 t 0 js k (omega (arith, size)) (below k inside) ∙ ap (λ m. get_or t m 0) place ∙ table (get_or js k 0) (below k inside)
      ∙ ap f (lane k inside) ∙ sym (get_or-map (λ x. f (g x)) v k 0 0 (omega (arith, long))))

-- a table of the digits
pub glyphs_are : (t : List ℕ) (upper : Bool) → agree_below (λ k. eqb (get_or t k 0) (digit_glyph upper k)) (λ _. true) 16 ≡ true → (k : ℕ) → k < 16 → get_or t k 0 ≡ digit_glyph upper k
glyphs_are t upper all k small = eqb-true _ _ (agree_below_at (λ j. eqb (get_or t j 0) (digit_glyph upper j)) (λ _. true) 16 k all small)

-- the digits of each byte side by side
abbrev pub pair_places : List ℕ
pair_places = 0 ∷ 16 ∷ 1 ∷ 17 ∷ 2 ∷ 18 ∷ 3 ∷ 19 ∷ 4 ∷ 20 ∷ 5 ∷ 21 ∷ 6 ∷ 22 ∷ 7 ∷ 23 ∷ 8 ∷ 24 ∷ 9 ∷ 25 ∷ 10 ∷ 26 ∷ 11 ∷ 27 ∷ 12 ∷ 28 ∷ 13 ∷ 29 ∷ 14 ∷ 30 ∷ 15 ∷ 31 ∷ []

pub pairs_are : (upper : Bool) (v : List ℕ) → length v ≡ 16 →
    pick_l 0 (map (λ b. digit_glyph upper (b / 16)) v ++ map (λ b. digit_glyph upper (b % 16)) v) pair_places ≡ flat_map (pair_of upper) v
pairs_are upper v long =
    subst (λ l. pick_l 0 (map (λ b. digit_glyph upper (b / 16)) l ++ map (λ b. digit_glyph upper (b % 16)) l) pair_places ≡ flat_map (pair_of upper) l) (pick_l_whole 0 v 16 long) refl

-- eight pieces of four, and a space after each: 32 characters of them, and 8
abbrev pub front_places : List ℕ
front_places =
    0 ∷ 1 ∷ 2 ∷ 3 ∷ 32 ∷ 4 ∷ 5 ∷ 6 ∷ 7 ∷ 32 ∷ 8 ∷ 9 ∷ 10 ∷ 11 ∷ 32 ∷ 12 ∷ 13 ∷ 14 ∷ 15 ∷ 32 ∷ 16 ∷ 17 ∷ 18 ∷ 19 ∷ 32 ∷ 20 ∷ 21 ∷ 22 ∷ 23 ∷ 32 ∷ 24 ∷ 25 ∷ []

abbrev pub back_places : List ℕ
back_places = 26 ∷ 27 ∷ 32 ∷ 28 ∷ 29 ∷ 30 ∷ 31 ∷ 32 ∷ []

pub fours_are : (cells : List ℕ) → length cells ≡ 32 →
    pick_l 0 (cells ++ replicate 32 32) front_places ++ pick_l 0 (cells ++ replicate 32 32) back_places ≡ flat_map (piece_at 4 cells) (range_with_len 0 8)
fours_are cells long =
    subst (λ l. pick_l 0 (l ++ replicate 32 32) front_places ++ pick_l 0 (l ++ replicate 32 32) back_places ≡ flat_map (piece_at 4 l) (range_with_len 0 8)) (pick_l_whole 0 cells 32 long) refl

-- the same of the cells behind which others stand
pub fours_front : (cells rest : List ℕ) → length cells ≡ 32 → flat_map (piece_at 4 cells) (range_with_len 0 8) ≡ flat_map (piece_at 4 (cells ++ rest)) (range_with_len 0 8)
fours_front cells rest long =
    subst (λ l. flat_map (piece_at 4 l) (range_with_len 0 8) ≡ flat_map (piece_at 4 (l ++ rest)) (range_with_len 0 8)) (pick_l_whole 0 cells 32 long) refl

-- hexdump's columns: 32 characters of them, and 16; two spaces stand behind them
abbrev pub canon_front : List ℕ
canon_front =
    0 ∷ 1 ∷ 32 ∷ 2 ∷ 3 ∷ 32 ∷ 4 ∷ 5 ∷ 32 ∷ 6 ∷ 7 ∷ 32 ∷ 8 ∷ 9 ∷ 32 ∷ 10 ∷ 11 ∷ 32 ∷ 12 ∷ 13 ∷ 32 ∷ 14 ∷ 15 ∷ 32 ∷ 32 ∷ 16 ∷ 17 ∷ 32 ∷ 18 ∷ 19 ∷ 32 ∷ 20 ∷ []

abbrev pub canon_middle : List ℕ
canon_middle = 21 ∷ 32 ∷ 22 ∷ 23 ∷ 32 ∷ 24 ∷ 25 ∷ 32 ∷ 26 ∷ 27 ∷ 32 ∷ 28 ∷ 29 ∷ 32 ∷ 30 ∷ 31 ∷ []

-- the columns of the digits of these bytes
abbrev pub canon_cells : List ℕ → List ℕ
canon_cells cells = pick_l 0 (cells ++ replicate 32 32) canon_front ++ (pick_l 0 (cells ++ replicate 32 32) canon_middle ++ codes "  ")

pub canon_are : (bytes : List ℕ) → length bytes ≡ 16 → canon_cells (flat_map (pair_of false) bytes) ≡ canon_columns bytes 50
canon_are bytes long = subst (λ l. canon_cells (flat_map (pair_of false) l) ≡ canon_columns l 50) (pick_l_whole 0 bytes 16 long) refl

-- the lanes that print, and dots
abbrev pub shown_mask : List ℕ → List ℕ
shown_mask v = zip2 under (zip2 less v (replicate 16 32)) (replicate 16 94)

mask_is : (v : List ℕ) → length v ≡ 16 → shown_mask v ≡ map (λ x. cond (is_inside x) 255 0) v
mask_is v long =
    let down = zip2_splat less v 16 32 long in
    zip2_splat under (zip2 less v (replicate 16 32)) 16 94 (ap length down ∙ length-map v (λ x. less x 32) ∙ long)
    ∙ ap (map (λ a. cond (leb a 94) 255 0)) down ∙ map-map (λ a. cond (leb a 94) 255 0) (λ x. less x 32) v

top_is : (b : Bool) → top 7 (cond b 255 0) ≡ b
top_is true = refl
top_is false = refl

one_shown : (x : ℕ) → x < 256 → cond (top 7 (cond (is_inside x) 255 0)) x 46 ≡ shown_byte x
one_shown x small = ap (λ b. cond b x 46) (top_is (is_inside x) ∙ inside_is x small)

all_shown : (v : List ℕ) → Each1 (Fits w8) v → sel_l (map (top 7) (map (λ x. cond (is_inside x) 255 0) v)) v (replicate (length v) 46) ≡ map shown_byte v
all_shown [] fits = refl
all_shown (x ∷ xs) fits = λ i. one_shown x fits.0.fits i ∷ all_shown xs fits.1 i

pub shown_are : (v : List ℕ) → length v ≡ 16 → Each1 (Fits w8) v → sel_l (map (top 7) (shown_mask v)) v (replicate 16 46) ≡ map shown_byte v
shown_are v long fits =
    (λ i. sel_l (map (top 7) (mask_is v long i)) v (replicate (sym long i) 46)) ∙ all_shown v fits
