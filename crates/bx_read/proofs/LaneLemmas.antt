-- The digits of a line, lane by lane.
use Rattle.std.proofs.Common.{◌≡◌, ℕ, zero, suc, ◌+◌, ◌-◌, ◌*◌, ◌%◌, ◌^◌, ◌<◌, ◌≤◌, Bool, true, false, ◌&&◌, cond, leb, ltb, eqb, Option, None, Some, List, [], ◌∷◌, ◌++◌, length, get_or, take, drop, map, replicate, inl, inr, bit_or, Fits, w8, refl, arith, sym, ap, ◌∙◌, subst}
use Rattle.std.specs.Prelude.{IfSome}
use Rattle.std.specs.Option.{option_map}
use Rattle.std.specs.Char.{digit_value}
use Rattle.std.specs.Int.{w32, from_be_bytes}
use Rattle.std.specs.Str.Parse.{digits_value, digits_value_after}
use Rattle.std.specs.List.{range_with_len}
use Rattle.std.proofs.lemmas.Bool.{agree_below_at, eqb-true, ltb-true, ltb-false, cases_lt}
use Rattle.std.proofs.lemmas.List.{length-append, length-map, map-append, get_or-map, get_or_append_left, get_or-append-add, take_all}
use Rattle.std.proofs.lemmas.Simd.{zip2_splat_left, map-map, mask_l-mod, none_from_empty_mask, pick_l_whole}
use lib.Lanes.{zip2, Each1, pick_l, sel_l, top, mask_l}
use Rattle.bx_read.specs.Digits.{is_hex, pair_value, pairs_of}
use Rattle.bx_read.specs.Plain.{hex_bytes}
use Rattle.bx_read.proofs.GrammarLemmas.{and_true, guard_some, unmap}
use Rattle.bx_read.proofs.DigitsLemmas.{value_small}
use Rattle.bx_read.proofs.PairsLemmas.{pairs_of-next, pairs_of-space, pairs_of-last}
use Rattle.bx_read.specs.private.Lanes.{group_places}

abbrev pub value : ℕ → ℕ
value c = cond (is_hex c) (digit_value c) 255

abbrev pub less : ℕ → ℕ → ℕ
less a b = (a + (2 ^ 8 - b)) % 2 ^ 8

abbrev pub plus : ℕ → ℕ → ℕ
plus a b = (a + b) % 2 ^ 8

abbrev pub under : ℕ → ℕ → ℕ
under a b = cond (leb a b) 255 0

abbrev pub over : ℕ → ℕ → ℕ
over a b = cond (ltb a b) 255 0

-- what the operations on lanes make of n bytes
abbrev pub digit_lanes : List ℕ → ℕ → List ℕ
digit_lanes v n = zip2 less v (replicate n 48)

abbrev letter_lanes : List ℕ → ℕ → List ℕ
letter_lanes v n = zip2 less (zip2 bit_or v (replicate n 32)) (replicate n 97)

abbrev value_lanes : List ℕ → ℕ → List ℕ
value_lanes v n =
    sel_l (map (top 7) (zip2 under (digit_lanes v n) (replicate n 9))) (digit_lanes v n)
    (sel_l (map (top 7) (zip2 under (letter_lanes v n) (replicate n 5))) (zip2 plus (letter_lanes v n) (replicate n 10)) (replicate n 255))

one_value : (c : ℕ) → c < 256 → get_or (value_lanes (c ∷ []) 1) 0 0 ≡ value c
one_value c small = eqb-true _ _ (agree_below_at (λ x. eqb (get_or (value_lanes (x ∷ []) 1) 0 0) (value x)) (λ _. true) 256 c refl small)

all_values : (v : List ℕ) → Each1 (Fits w8) v → value_lanes v (length v) ≡ map value v
all_values [] fits = refl
all_values (c ∷ v) fits = λ i. one_value c fits.0.fits i ∷ all_values v fits.1 i

pub values_are : (v : List ℕ) → length v ≡ 16 → Each1 (Fits w8) v → value_lanes v 16 ≡ map value v
values_are v long fits = (λ i. value_lanes v (sym long i)) ∙ all_values v fits

-- no lane is above 15
pub top_is : (b : Bool) → top 7 (cond b 255 0) ≡ b
top_is true = refl
top_is false = refl

pub are_small : (v : List ℕ) → length v ≡ 16 → mask_l (map (top 7) (zip2 over (replicate 16 15) v)) % 2 ^ 64 ≡ 0 → (k : ℕ) → k < 16 → get_or v k 0 ≤ 15
are_small v long none k inside =
    let p : ℕ → Bool = λ x. top 7 (over 15 x) in
    let lanes : map (top 7) (zip2 over (replicate 16 15) v) ≡ map p v = ap (map (top 7)) (zip2_splat_left over 15 16 v long) ∙ map-map (top 7) (over 15) v in
    let mask : mask_l (map p v) ≡ 0 = sym (ap (λ l. mask_l l % 2 ^ 64) lanes ∙ mask_l-mod (map p v) 64 (omega (arith, length-map v p, long))) ∙ none in
    let whole : mask_l (map p (take 16 v)) ≡ 0 = ap (λ l. mask_l (map p l)) (take_all 16 v (omega (arith, long))) ∙ mask in
    let not_over : ltb 15 (get_or v k 0) ≡ false = sym (top_is (ltb 15 (get_or v k 0))) ∙ none_from_empty_mask p v 0 16 0 (omega (arith, long)) whole k (omega arith) inside in
    ltb-false 15 (get_or v k 0) not_over

-- two digits as one byte
abbrev pub joined : ℕ → ℕ → ℕ
joined high low = (high * 16 % 256 + low) % 256

abbrev pub joined_all : List ℕ → List ℕ
joined_all [] = []
joined_all (high ∷ []) = []
joined_all (high ∷ low ∷ rest) = joined high low ∷ joined_all rest

one_pair : (high low : ℕ) → is_hex high ≡ true → is_hex low ≡ true → joined (value high) (value low) ≡ pair_value high low
one_pair high low h l =
    let first : value high ≡ digit_value high = ap (λ b. cond b (digit_value high) 255) h in
    let second : value low ≡ digit_value low = ap (λ b. cond b (digit_value low) 255) l in
    (λ i. joined (first i) (second i)) ∙ sum (digit_value high) (digit_value low) (ltb-true (digit_value high) 16 h) (ltb-true (digit_value low) 16 l)
  where
    sum : (a b : ℕ) → a < 16 → b < 16 → (a * 16 % 256 + b) % 256 ≡ 16 * a + b
    sum a b small below = omega arith

pub all_pairs : (n : ℕ) (text : List ℕ) → length text ≡ 2 * n → ((k : ℕ) → k < length text → is_hex (get_or text k 0) ≡ true) → hex_bytes text ≡ Some (joined_all (map value text))
all_pairs zero [] long all = refl
all_pairs zero (c ∷ text) long all = absurd (omega (arith, long))
all_pairs (suc n) [] long all = absurd (omega (arith, long))
all_pairs (suc n) (c ∷ []) long all = absurd (omega (arith, long))
all_pairs (suc n) (high ∷ low ∷ text) long all =
    let h : is_hex high ≡ true = all 0 (omega arith) in
    let l : is_hex low ≡ true = all 1 (omega arith) in
    let rest = all_pairs n text (omega (arith, long)) (λ k lt. all (suc (suc k)) (omega (arith, lt))) in
    (λ i. cond (h i && l i) (option_map (λ bytes. pair_value high low ∷ bytes) (hex_bytes text)) None)
    ∙ ap (option_map (λ bytes. pair_value high low ∷ bytes)) rest
    ∙ ap (λ b. Some (b ∷ joined_all (map value text))) (sym (one_pair high low h l))

abbrev pub joined_lanes : List ℕ → List ℕ
joined_lanes v = map (λ k. joined (get_or v (2 * k) 0) (get_or v (2 * k + 1) 0)) (range_with_len 0 16)

lanes_join : (v : List ℕ) → length v ≡ 32 → joined_lanes v ≡ joined_all v
lanes_join v long = subst (λ l. joined_lanes l ≡ joined_all l) (pick_l_whole 0 v 32 long) refl

pub is_digit : (c : ℕ) → value c ≤ 15 → is_hex c ≡ true
is_digit c small = value_small c (value c) refl small

-- a lane of two vectors
lane : (P : ℕ → Type 0) (a b : List ℕ) → length a ≡ 16 → length b ≡ 16 → ((k : ℕ) → k < 16 → P (get_or a k 0)) → ((k : ℕ) → k < 16 → P (get_or b k 0)) → (k : ℕ) → k < length (a ++ b) → P (get_or (a ++ b) k 0)
lane P a b la lb pa pb k inside = elim (cases_lt k 16) [
  | inl below ↦ subst P (sym (get_or_append_left a b 0 k (omega (arith, la, below)))) (pa k below)
  | inr above ↦
      let place : length a + (k - length a) ≡ k = omega (arith, la, above) in
      subst (λ n. P (get_or (a ++ b) n 0)) place
      (subst P (sym (get_or-append-add a b (k - length a) 0)) (pb (k - length a) (omega (arith, la, lb, inside, above, length-append a b))))
]

pub pairs_are : (first second front back : List ℕ) → length first ≡ 16 → length second ≡ 16 → front ≡ map value first → back ≡ map value second →
    ((k : ℕ) → k < 16 → get_or front k 0 ≤ 15) → ((k : ℕ) → k < 16 → get_or back k 0 ≤ 15) → hex_bytes (first ++ second) ≡ Some (joined_lanes (front ++ back))
pairs_are first second front back lf ls f b small below =
    let size_f : length front ≡ 16 = ap length f ∙ length-map first value ∙ lf in
    let size_b : length back ≡ 16 = ap length b ∙ length-map second value ∙ ls in
    let digit : (text values : List ℕ) → length text ≡ 16 → values ≡ map value text → ((k : ℕ) → k < 16 → get_or values k 0 ≤ 15) → (k : ℕ) → k < 16 → is_hex (get_or text k 0) ≡ true =
    λ text values long is few k inside. is_digit (get_or text k 0) (subst (λ n. n ≤ 15) (ap (λ l. get_or l k 0) is ∙ get_or-map value text k 0 0 (omega (arith, long, inside))) (few k inside)) in
    let values : front ++ back ≡ map value (first ++ second) = (λ i. f i ++ b i) ∙ sym (map-append value first second) in
    all_pairs 16 (first ++ second) (length-append first second ∙ omega (arith, lf, ls))
    (lane (λ c. is_hex c ≡ true) first second lf ls (digit first front lf f small) (digit second back ls b below))
    ∙ ap Some (ap joined_all (sym values) ∙ sym (lanes_join (front ++ back) (length-append front back ∙ omega (arith, size_f, size_b))))

not_space : (c d : ℕ) → (is_hex c && is_hex d) ≡ true → c ≡ 32 → ⊥
not_space c d e is = let h : is_hex 32 ≡ true = rw is at (and_true (is_hex c) (is_hex d) e).0 in cc

-- a group of two pairs, and a space behind it
group : (a b c d s : ℕ) (rest text v : List ℕ) → s ≡ 32 → ((w : List ℕ) → hex_bytes rest ≡ Some w → pairs_of text ≡ Some w) →
    hex_bytes (a ∷ b ∷ c ∷ d ∷ rest) ≡ Some v → pairs_of (a ∷ b ∷ c ∷ d ∷ s ∷ text) ≡ Some v
group a b c d s rest text v space later h =
    let one = guard_some (is_hex a && is_hex b) (option_map (λ bytes. pair_value a b ∷ bytes) (hex_bytes (c ∷ d ∷ rest))) v h in
    let more = unmap (λ bytes. pair_value a b ∷ bytes) (hex_bytes (c ∷ d ∷ rest)) v one.1 in
    let two = guard_some (is_hex c && is_hex d) (option_map (λ bytes. pair_value c d ∷ bytes) (hex_bytes rest)) more.0 more.1 in
    let last = unmap (λ bytes. pair_value c d ∷ bytes) (hex_bytes rest) more.0 two.1 in
    ap (λ x. pairs_of (a ∷ b ∷ c ∷ d ∷ x ∷ text)) space
    ∙ pairs_of-next a b c (d ∷ 32 ∷ text) one.0 (not_space c d two.0)
    ∙ ap (option_map (λ bytes. pair_value a b ∷ bytes)) (pairs_of-space c d text two.0 ∙ ap (option_map (λ bytes. pair_value c d ∷ bytes)) (later last.0 last.1 ∙ sym last.1) ∙ sym (ap (λ t. cond t (option_map (λ bytes. pair_value c d ∷ bytes) (hex_bytes rest)) None) two.0))
    ∙ sym (ap (λ t. cond t (option_map (λ bytes. pair_value a b ∷ bytes) (hex_bytes (c ∷ d ∷ rest))) None) one.0) ∙ h

last_group : (a b c d : ℕ) (v : List ℕ) → hex_bytes (a ∷ b ∷ c ∷ d ∷ []) ≡ Some v → pairs_of (a ∷ b ∷ c ∷ d ∷ []) ≡ Some v
last_group a b c d v h =
    let one = guard_some (is_hex a && is_hex b) (option_map (λ bytes. pair_value a b ∷ bytes) (hex_bytes (c ∷ d ∷ []))) v h in
    let more = unmap (λ bytes. pair_value a b ∷ bytes) (hex_bytes (c ∷ d ∷ [])) v one.1 in
    let two = guard_some (is_hex c && is_hex d) (option_map (λ bytes. pair_value c d ∷ bytes) (hex_bytes [])) more.0 more.1 in
    pairs_of-next a b c (d ∷ []) one.0 (not_space c d two.0)
    ∙ ap (option_map (λ bytes. pair_value a b ∷ bytes)) (pairs_of-last c d two.0 ∙ two.1 ∙ sym more.1)
    ∙ sym (ap (λ t. cond t (option_map (λ bytes. pair_value a b ∷ bytes) (hex_bytes (c ∷ d ∷ []))) None) one.0) ∙ h

-- the digits of eight groups; all but the last have a space behind them
module _ (hex : List ℕ) (spaces : (k : ℕ) → k < 7 → get_or hex (5 * k + 4) 0 ≡ 32) where
  abbrev cell : ℕ → ℕ
  cell k = get_or hex k 0

  abbrev text : ℕ → ℕ → List ℕ
  text a n = pick_l 0 hex (range_with_len a n)

  abbrev digits : ℕ → List ℕ
  digits n = drop n (map cell group_places ++ map (λ k. cell (20 + k)) group_places)

  from_35 : (w : List ℕ) → hex_bytes (digits 28) ≡ Some w → pairs_of (text 35 4) ≡ Some w
  from_35 w h = last_group (cell 35) (cell 36) (cell 37) (cell 38) w h

  from_30 : (w : List ℕ) → hex_bytes (digits 24) ≡ Some w → pairs_of (text 30 9) ≡ Some w
  from_30 w h = group (cell 30) (cell 31) (cell 32) (cell 33) (cell 34) (digits 28) (text 35 4) w (spaces 6 (omega arith)) from_35 h

  from_25 : (w : List ℕ) → hex_bytes (digits 20) ≡ Some w → pairs_of (text 25 14) ≡ Some w
  from_25 w h = group (cell 25) (cell 26) (cell 27) (cell 28) (cell 29) (digits 24) (text 30 9) w (spaces 5 (omega arith)) from_30 h

  from_20 : (w : List ℕ) → hex_bytes (digits 16) ≡ Some w → pairs_of (text 20 19) ≡ Some w
  from_20 w h = group (cell 20) (cell 21) (cell 22) (cell 23) (cell 24) (digits 20) (text 25 14) w (spaces 4 (omega arith)) from_25 h

  from_15 : (w : List ℕ) → hex_bytes (digits 12) ≡ Some w → pairs_of (text 15 24) ≡ Some w
  from_15 w h = group (cell 15) (cell 16) (cell 17) (cell 18) (cell 19) (digits 16) (text 20 19) w (spaces 3 (omega arith)) from_20 h

  from_10 : (w : List ℕ) → hex_bytes (digits 8) ≡ Some w → pairs_of (text 10 29) ≡ Some w
  from_10 w h = group (cell 10) (cell 11) (cell 12) (cell 13) (cell 14) (digits 12) (text 15 24) w (spaces 2 (omega arith)) from_15 h

  from_5 : (w : List ℕ) → hex_bytes (digits 4) ≡ Some w → pairs_of (text 5 34) ≡ Some w
  from_5 w h = group (cell 5) (cell 6) (cell 7) (cell 8) (cell 9) (digits 8) (text 10 29) w (spaces 1 (omega arith)) from_10 h

  from_0 : (w : List ℕ) → hex_bytes (digits 0) ≡ Some w → pairs_of (text 0 39) ≡ Some w
  from_0 w h = group (cell 0) (cell 1) (cell 2) (cell 3) (cell 4) (digits 4) (text 5 34) w (spaces 0 (omega arith)) from_5 h

  pub columns_are : (v : List ℕ) → length hex ≡ 39 → hex_bytes (map cell group_places ++ map (λ k. cell (20 + k)) group_places) ≡ Some v → pairs_of hex ≡ Some v
  columns_are v long h = ap pairs_of (sym (pick_l_whole 0 hex 39 long)) ∙ from_0 v h

pub some_weaker : (o : Option (List ℕ)) (P Q : List ℕ → Type 0) → ((v : List ℕ) → P v → Q v) → IfSome o P → IfSome o Q
some_weaker None P Q f h = h
some_weaker (Some v) P Q f h = f v h

-- the number that bytes give after a number
abbrev bytes_after : ℕ → List ℕ → ℕ
bytes_after a [] = a
bytes_after a (b ∷ bs) = bytes_after (256 * a + b) bs

pairs_number : (n : ℕ) (text : List ℕ) (a : ℕ) → length text ≡ 2 * n → ((k : ℕ) → k < length text → is_hex (get_or text k 0) ≡ true) → digits_value_after 16 a text ≡ bytes_after a (joined_all (map value text))
pairs_number zero [] a long all = refl
pairs_number zero (c ∷ text) a long all = absurd (omega (arith, long))
pairs_number (suc n) [] a long all = absurd (omega (arith, long))
pairs_number (suc n) (c ∷ []) a long all = absurd (omega (arith, long))
pairs_number (suc n) (high ∷ low ∷ text) a long all =
    let pair : joined (value high) (value low) ≡ pair_value high low = one_pair high low (all 0 (omega arith)) (all 1 (omega arith)) in
    let sum : (a * 16 + digit_value high) * 16 + digit_value low ≡ 256 * a + joined (value high) (value low) = two a (digit_value high) (digit_value low) (joined (value high) (value low)) pair in
    ap (λ k. digits_value_after 16 k text) sum
    ∙ pairs_number n text (256 * a + joined (value high) (value low)) (omega (arith, long)) (λ k lt. all (suc (suc k)) (omega (arith, lt)))
  where
    two : (a h l b : ℕ) → b ≡ 16 * h + l → (a * 16 + h) * 16 + l ≡ 256 * a + b
    two a h l b e = omega (arith, e)

abbrev pub four_joined : List ℕ → List ℕ
four_joined v = map (λ k. joined (get_or v (2 * k) 0) (get_or v (2 * k + 1) 0)) (range_with_len 0 4)

four_join : (v : List ℕ) → length v ≡ 16 → four_joined (v ++ v) ≡ joined_all (take 8 v)
four_join v long = subst (λ l. four_joined (l ++ l) ≡ joined_all (take 8 l)) (pick_l_whole 0 v 16 long) refl

be_is : (f : ℕ → ℕ) → from_be_bytes w32 (map f (range_with_len 0 4)) ≡ bytes_after 0 (map f (range_with_len 0 4))
be_is f = omega arith

first_eight : (text : List ℕ) → length text ≡ 8 → take 8 (map value (text ++ text)) ≡ map value text
first_eight text long = subst (λ l. take 8 (map value (l ++ l)) ≡ map value l) (pick_l_whole 0 text 8 long) refl

-- eight digits, from their values twice over
pub eight_are : (text values : List ℕ) → length text ≡ 8 → values ≡ map value (text ++ text) → ((k : ℕ) → k < 16 → get_or values k 0 ≤ 15) → (k : ℕ) → k < length text → is_hex (get_or text k 0) ≡ true
eight_are text values long is small k inside =
    let place : k < length (text ++ text) = omega (arith, inside, length-append text text) in
    is_digit (get_or text k 0)
    (subst (λ n. n ≤ 15) (ap (λ l. get_or l k 0) is ∙ get_or-map value (text ++ text) k 0 0 place ∙ ap value (get_or_append_left text text 0 k inside)) (small k (omega (arith, inside, long))))

pub eight_is : (text values : List ℕ) (n : ℕ) → length text ≡ 8 → values ≡ map value (text ++ text) → ((k : ℕ) → k < 16 → get_or values k 0 ≤ 15) → n ≡ from_be_bytes w32 (four_joined (values ++ values)) → n ≡ digits_value 16 text
eight_is text values n long is small sum =
    let size : length values ≡ 16 = ap length is ∙ length-map (text ++ text) value ∙ omega (arith, long, length-append text text) in
    sum ∙ be_is (λ k. joined (get_or (values ++ values) (2 * k) 0) (get_or (values ++ values) (2 * k + 1) 0))
    ∙ ap (bytes_after 0) (four_join values size)
    ∙ ap (λ l. bytes_after 0 (joined_all l)) (ap (take 8) is ∙ first_eight text long)
    ∙ sym (pairs_number 4 text 0 long (eight_are text values long is small))
