-- The binary digits of six bytes, lane by lane, and the line that they stand in.
use Rattle.std.proofs.Common.{◌≡◌, ℕ, zero, suc, ◌<◌, Bool, true, false, cond, eqb, List, [], ◌∷◌, ◌++◌, length, take, drop, get_or, bit_and, Fits, w8, refl, ap, ◌∙◌, subst}
use Rattle.std.specs.Prelude.{codes, slice_set, bytes_eq}
use Rattle.std.specs.List.{flat_map, range_with_len}
use Rattle.std.proofs.lemmas.Bool.{agree_below_at}
use Rattle.std.proofs.lemmas.Simd.{pick_l_whole}
use Rattle.std.proofs.lemmas.Slice.Eq.{bytes_eq-Decides}
use borrow.Rule.Slice.PartMut.{put_mid}
use lib.Lanes.{Each1, pick_l, put_chunk, top}
use Rattle.bx_dump_columns.specs.Cells.{bits_of, grouped}
use Rattle.bx_dump_columns.specs.Bits.{spaced_bits}

-- a digit by its bit, and a space by none
abbrev pub lit : ℕ → ℕ → ℕ
lit b m = cond (top 7 (cond (eqb (bit_and b m) m) 255 0)) 49 48

abbrev pub gap : ℕ → ℕ
gap b = cond (top 7 (cond (eqb (bit_and b 0) 0) 255 0)) 32 32

abbrev eight : ℕ → List ℕ
eight b = lit b 128 ∷ lit b 64 ∷ lit b 32 ∷ lit b 16 ∷ lit b 8 ∷ lit b 4 ∷ lit b 2 ∷ lit b 1 ∷ []

eight_is : (b : ℕ) → b < 256 → eight b ≡ bits_of b
eight_is b small = (bytes_eq-Decides (eight b) (bits_of b)).0 (agree_below_at (λ i. bytes_eq (eight i) (bits_of i)) (λ _. true) 256 b refl small)

one_gap : (t : Bool) → ◌≡◌ {A = ℕ} (cond t 32 32) 32
one_gap true = refl
one_gap false = refl

abbrev row : ℕ → List ℕ → List ℕ
row first xs = flat_map (λ b. eight b ++ gap first ∷ []) xs

row_is : (first : ℕ) (xs : List ℕ) → Each1 (Fits w8) xs → row first xs ≡ spaced_bits xs
row_is first [] fits = refl
row_is first (x ∷ xs) fits = λ i. (eight_is x fits.0.fits i ++ one_gap (top 7 (cond (eqb (bit_and first 0) 0) 255 0)) i ∷ []) ++ row_is first xs fits.1 i

each_take : (n : ℕ) (xs : List ℕ) → Each1 (Fits w8) xs → Each1 (Fits w8) (take n xs)
each_take zero xs fits = tt
each_take (suc n) [] fits = tt
each_take (suc n) (x ∷ xs) fits = (fits.0, each_take n xs fits.1)

abbrev pub lane : List ℕ → ℕ → ℕ
lane l i = get_or (l ++ l) i 0

abbrev pub front_lanes : List ℕ → List ℕ
front_lanes l =
    lit (lane l 0) 128 ∷ lit (lane l 0) 64 ∷ lit (lane l 0) 32 ∷ lit (lane l 0) 16 ∷ lit (lane l 0) 8 ∷ lit (lane l 0) 4 ∷ lit (lane l 0) 2 ∷ lit (lane l 0) 1 ∷ gap (lane l 0) ∷ lit (lane l 1) 128 ∷ lit (lane l 1) 64 ∷ lit (lane l 1) 32 ∷ lit (lane l 1) 16 ∷ lit (lane l 1) 8 ∷ lit (lane l 1) 4 ∷ lit (lane l 1) 2 ∷ lit (lane l 1) 1 ∷ gap (lane l 0) ∷ lit (lane l 2) 128 ∷ lit (lane l 2) 64 ∷ lit (lane l 2) 32 ∷ lit (lane l 2) 16 ∷ lit (lane l 2) 8 ∷ lit (lane l 2) 4 ∷ lit (lane l 2) 2 ∷ lit (lane l 2) 1 ∷ gap (lane l 0) ∷ lit (lane l 3) 128 ∷ lit (lane l 3) 64 ∷ lit (lane l 3) 32 ∷ lit (lane l 3) 16 ∷ lit (lane l 3) 8 ∷ []

abbrev pub middle_lanes : List ℕ → List ℕ
middle_lanes l =
    lit (lane l 3) 4 ∷ lit (lane l 3) 2 ∷ lit (lane l 3) 1 ∷ gap (lane l 0) ∷ lit (lane l 4) 128 ∷ lit (lane l 4) 64 ∷ lit (lane l 4) 32 ∷ lit (lane l 4) 16 ∷ lit (lane l 4) 8 ∷ lit (lane l 4) 4 ∷ lit (lane l 4) 2 ∷ lit (lane l 4) 1 ∷ gap (lane l 0) ∷ lit (lane l 5) 128 ∷ lit (lane l 5) 64 ∷ lit (lane l 5) 32 ∷ []

abbrev pub last_lanes : List ℕ → List ℕ
last_lanes l = lit (lane l 5) 64 ∷ lit (lane l 5) 32 ∷ lit (lane l 5) 16 ∷ lit (lane l 5) 8 ∷ lit (lane l 5) 4 ∷ lit (lane l 5) 2 ∷ lit (lane l 5) 1 ∷ gap (lane l 0) ∷ []

module _ (bytes : List ℕ) (long : length bytes ≡ 16) (fits : Each1 (Fits w8) bytes) where
  whole : row (get_or bytes 0 0) (take 6 bytes) ≡ spaced_bits (take 6 bytes)
  whole = row_is (get_or bytes 0 0) (take 6 bytes) (each_take 6 bytes fits)

  pub front_are : front_lanes bytes ≡ take 32 (spaced_bits (take 6 bytes))
  front_are =
      subst (λ l. front_lanes l ≡ take 32 (row (get_or l 0 0) (take 6 l))) (pick_l_whole 0 bytes 16 long) refl ∙ ap (take 32) whole

  pub middle_are : middle_lanes bytes ≡ take 16 (drop 32 (spaced_bits (take 6 bytes)))
  middle_are =
      subst (λ l. middle_lanes l ≡ take 16 (drop 32 (row (get_or l 0 0) (take 6 l)))) (pick_l_whole 0 bytes 16 long) refl ∙ ap (λ t. take 16 (drop 32 t)) whole

  pub last_are : last_lanes bytes ≡ drop 46 (spaced_bits (take 6 bytes))
  last_are =
      subst (λ l. last_lanes l ≡ drop 46 (row (get_or l 0 0) (take 6 l))) (pick_l_whole 0 bytes 16 long) refl ∙ ap (drop 46) whole

-- how the parts are put over one another
abbrev with_part : ℕ → ℕ → List ℕ → List ℕ → List ℕ
with_part at n body part = put_mid at n body (put_chunk 0 (take n (drop at body)) part)

abbrev pub body_of : List ℕ → List ℕ → List ℕ → List ℕ → List ℕ → List ℕ
body_of start front middle last six =
    slice_set (put_mid 57 6 (slice_set (with_part 48 8 (with_part 34 16 (with_part 2 32 start front) middle) last) 56 32) six) 63 10

abbrev IsBody : List ℕ → List ℕ → List ℕ → Type 0
IsBody rest digits six =
    body_of (codes ": " ++ rest) (take 32 digits) (take 16 (drop 32 digits)) (drop 46 digits) six ≡ codes ": " ++ digits ++ codes " " ++ six ++ codes "\n"

pub body_is : (rest digits six : List ℕ) → length rest ≡ 62 → length digits ≡ 54 → length six ≡ 6 → IsBody rest digits six
body_is rest digits six room long few =
    subst (λ r. IsBody r digits six) (pick_l_whole 0 rest 62 room)
    (subst (λ d. IsBody (pick_l 0 rest (range_with_len 0 62)) d six) (pick_l_whole 0 digits 54 long)
    (subst (λ s. IsBody (pick_l 0 rest (range_with_len 0 62)) (pick_l 0 digits (range_with_len 0 54)) s) (pick_l_whole 0 six 6 few) refl))

pub spaced_long : (xs : List ℕ) → length xs ≡ 6 → length (spaced_bits xs) ≡ 54
spaced_long xs long = subst (λ l. length (spaced_bits l) ≡ 54) (pick_l_whole 0 xs 6 long) refl

-- the columns of six bytes in groups of one
pub grouped_six : (xs : List ℕ) → length xs ≡ 6 → spaced_bits xs ≡ grouped 8 (flat_map bits_of xs) 54
grouped_six xs long = subst (λ l. spaced_bits l ≡ grouped 8 (flat_map bits_of l) 54) (pick_l_whole 0 xs 6 long) refl
