-- Sixteen digits, lane by lane.
use Rattle.std.proofs.Common.{◌≡◌, ℕ, zero, suc, ◌+◌, ◌-◌, ◌*◌, ◌%◌, ◌<◌, ◌≤◌, true, eqb, Option, None, Some, List, [], ◌∷◌, ◌++◌, length, get_or, map, replicate, Fits, w8, refl, arith, sym, ap, ◌∙◌, subst}
use Rattle.std.specs.Prelude.{unwrap_or, option_and_then}
use Rattle.std.specs.Int.{w64, from_be_bytes}
use Rattle.std.specs.List.{range_with_len}
use Rattle.std.proofs.lemmas.Bool.{agree_below_at, eqb-true}
use Rattle.std.proofs.lemmas.List.{length-map, get_or-map}
use Rattle.std.proofs.lemmas.Simd.{pick_l_whole}
use lib.Lanes.{zip2, Each1, sel_l, top}
use Rattle.bx_journal_format.specs.Hex.{hex_nibble, number_after}
use Rattle.bx_read.proofs.LaneLemmas.{digit_lanes, joined, joined_all, less, plus, under}

abbrev pub value : ℕ → ℕ
value c = unwrap_or (hex_nibble c) 255

-- what the operations on lanes make of n bytes
abbrev letter_lanes : List ℕ → ℕ → List ℕ
letter_lanes v n = zip2 less v (replicate n 97)

abbrev value_lanes : List ℕ → ℕ → List ℕ
value_lanes v n =
    sel_l (map (top 7) (zip2 under (digit_lanes v n) (replicate n 9))) (digit_lanes v n)
    (sel_l (map (top 7) (zip2 under (letter_lanes v n) (replicate n 5))) (zip2 plus (letter_lanes v n) (replicate n 10)) (replicate n 255))

one_value : (c : ℕ) → c < 256 → get_or (value_lanes (c ∷ []) 1) 0 0 ≡ value c
one_value c small = eqb-true _ _ (agree_below_at (λ x. eqb (get_or (value_lanes (x ∷ []) 1) 0 0) (value x)) (λ _. true) 256 c refl small)

all_values : (v : List ℕ) → Each1 (Fits w8) v → value_lanes v (length v) ≡ map value v
all_values [] fits = refl
all_values (c ∷ v) fits = λ i. one_value c fits.0.fits i ∷ all_values v fits.1 i

pub values_are : (v : List ℕ) → length v ≡ 16 → Each1 (Fits w8) v → value_lanes v 16 ≡ map value v
values_are v long fits = (λ i. value_lanes v (sym long i)) ∙ all_values v fits

-- the number that bytes give after a number
abbrev bytes_after : ℕ → List ℕ → ℕ
bytes_after a [] = a
bytes_after a (b ∷ bs) = bytes_after (256 * a + b) bs

digit_is : (c : ℕ) → value c ≤ 15 → hex_nibble c ≡ Some (value c)
digit_is c small = some (hex_nibble c) small
  where
    some : (o : Option ℕ) → unwrap_or o 255 ≤ 15 → o ≡ Some (unwrap_or o 255)
    some None h = absurd (omega (arith, h))
    some (Some d) h = refl

all_pairs : (n : ℕ) (text : List ℕ) (a : ℕ) → length text ≡ 2 * n → ((k : ℕ) → k < length text → value (get_or text k 0) ≤ 15) → number_after a text ≡ Some (bytes_after a (joined_all (map value text)))
unfolding number_after
all_pairs zero [] a long all = refl
all_pairs zero (c ∷ text) a long all = absurd (omega (arith, long))
all_pairs (suc n) [] a long all = absurd (omega (arith, long))
all_pairs (suc n) (c ∷ []) a long all = absurd (omega (arith, long))
all_pairs (suc n) (high ∷ low ∷ text) a long all =
    let h : value high ≤ 15 = all 0 (omega arith) in
    let l : value low ≤ 15 = all 1 (omega arith) in
    let sum : 16 * (16 * a + value high) + value low ≡ 256 * a + joined (value high) (value low) = two a (value high) (value low) h l in
    ap (option_and_then (λ d. option_and_then (λ e. number_after (16 * (16 * a + d) + e) text) (hex_nibble low))) (digit_is high h)
    ∙ ap (option_and_then (λ e. number_after (16 * (16 * a + value high) + e) text)) (digit_is low l)
    ∙ ap (λ k. number_after k text) sum
    ∙ all_pairs n text (256 * a + joined (value high) (value low)) (omega (arith, long)) (λ k lt. all (suc (suc k)) (omega (arith, lt)))
  where
    two : (a h l : ℕ) → h ≤ 15 → l ≤ 15 → 16 * (16 * a + h) + l ≡ 256 * a + (h * 16 % 256 + l) % 256
    two a h l hs ls = omega arith

abbrev pub joined_lanes : List ℕ → List ℕ
joined_lanes v = map (λ k. joined (get_or v (2 * k) 0) (get_or v (2 * k + 1) 0)) (range_with_len 0 8)

-- a vector's lanes among those of it twice, as a shuffle counts them
lanes_join : (v : List ℕ) → length v ≡ 16 → joined_lanes (v ++ v) ≡ joined_all v
lanes_join v long = subst (λ l. joined_lanes (l ++ l) ≡ joined_all l) (pick_l_whole 0 v 16 long) refl

be_is : (f : ℕ → ℕ) → from_be_bytes w64 (map f (range_with_len 0 8)) ≡ bytes_after 0 (map f (range_with_len 0 8))
be_is f = omega arith

pub number_is : (text values : List ℕ) (n : ℕ) → length text ≡ 16 → values ≡ map value text → ((k : ℕ) → k < 16 → get_or values k 0 ≤ 15) → n ≡ from_be_bytes w64 (joined_lanes (values ++ values)) → number_after 0 text ≡ Some n
number_is text values n long is small sum =
    let size : length values ≡ 16 = ap length is ∙ length-map text value ∙ long in
    let digit : (k : ℕ) → k < length text → value (get_or text k 0) ≤ 15 =
    λ k inside. subst (λ m. m ≤ 15) (ap (λ l. get_or l k 0) is ∙ get_or-map value text k 0 0 inside) (small k (omega (arith, inside, long))) in
    all_pairs 8 text 0 long digit
    ∙ ap (λ l. Some (bytes_after 0 (joined_all l))) (sym is)
    ∙ ap (λ l. Some (bytes_after 0 l)) (sym (lanes_join values size))
    ∙ ap Some (sym (be_is (λ k. joined (get_or (values ++ values) (2 * k) 0) (get_or (values ++ values) (2 * k + 1) 0))) ∙ sym sum)
