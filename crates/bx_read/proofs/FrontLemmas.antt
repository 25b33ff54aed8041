-- The pairs of digits that a text begins with, 16 digits at once.
use Rattle.std.proofs.Common.{◌≡◌, ℕ, zero, suc, ◌+◌, ◌-◌, ◌*◌, ◌/◌, ◌%◌, ◌^◌, ◌<◌, ◌≤◌, Bool, true, false, not, cond, leb, ltb, Some, List, [], ◌∷◌, ◌++◌, length, get_or, take, drop, map, replicate, inl, inr, refl, arith, sym, ap, ◌∙◌, subst}
use Rattle.std.specs.Option.{option_map}
use Rattle.std.specs.Char.{digit_value}
use Rattle.std.specs.List.{range_with_len, prefix_len}
use Rattle.std.specs.Simd.Lanes.{put_chunk}
use Rattle.std.proofs.Math.Seq.{take-add}
use Rattle.std.proofs.lemmas.Bool.{cases_lt, lt-ltb, le-ltb, lt-leb, le-leb, leb-true, ltb-true}
use Rattle.std.proofs.lemmas.List.{length-map, length-take-le, get_or-map, get_or-take, take-map, take-take, take_rest}
use Rattle.std.proofs.lemmas.List.Sums.{prefix_len_passes, prefix_len-le-length}
use Rattle.std.proofs.lemmas.Simd.{zip2_splat_left, map-map, mask_l-mod, leading_from_mask_l, trailing_mask_l, pick_l_whole, take_more_put_chunk}
use borrow.Rule.Slice.PartMut.{put_mid}
use lib.Count.{count_trailing_zeros}
use lib.Lanes.{zip2, top, mask_l}
use Rattle.bx_text.proofs.KnownLemmas.{take-put_mid_more}
use Rattle.bx_read.specs.Digits.{is_hex, pair_value}
use Rattle.bx_read.specs.Plain.{hex_bytes}
use Rattle.bx_read.proofs.PlainLemmas.{byte_of, hex_bytes-some}
use Rattle.bx_read.proofs.LaneLemmas.{value, over, joined, joined_all, top_is, all_pairs, is_digit}

abbrev pub small : ℕ → Bool
small v = leb v 15

-- a lane above 15
abbrev large : ℕ → Bool
large v = top 7 (over 15 v)

same_test : (v : ℕ) → not (large v) ≡ small v
same_test v = ap not (top_is (ltb 15 v)) ∙ elim (cases_lt 15 v) [
  | inl above ↦ rw (lt-ltb 15 v above, lt-leb v 15 above) refl
  | inr within ↦ rw (le-ltb 15 v within, le-leb v 15 within) refl
]

-- how many values of digits stand in front, by the mask of the others
module _ (v : List ℕ) (long : length v ≡ 16) where
  abbrev pub mask_of : ℕ
  mask_of = mask_l (map (top 7) (zip2 over (replicate 16 15) v)) % 2 ^ 64

  mask_is : mask_of ≡ mask_l (map large v)
  mask_is =
      ap (λ l. mask_l l % 2 ^ 64) (ap (map (top 7)) (zip2_splat_left over 15 16 v long) ∙ map-map (top 7) (over 15) v)
      ∙ mask_l-mod (map large v) 64 (omega (arith, length-map v large, long))

  same_front : prefix_len (λ x. not (large x)) v ≡ prefix_len small v
  same_front = λ i. prefix_len (λ x. same_test x i) v

  pub all_small : mask_of ≡ 0 → 16 ≡ prefix_len small v
  all_small none = sym (sym same_front ∙ leading_from_mask_l large v (sym mask_is ∙ none) ∙ long)

  pub some_large : 0 < mask_of → count_trailing_zeros 64 mask_of ≡ prefix_len small v
  some_large some =
      ap (count_trailing_zeros 64) mask_is ∙ trailing_mask_l large 64 v (omega (arith, long)) (subst (λ n. 0 < n) mask_is some) ∙ same_front

-- digits in front are values of digits in front
small_value : (c : ℕ) → small (value c) ≡ is_hex c
small_value c = go (is_hex c) refl
  where
    go : (b : Bool) → is_hex c ≡ b → small (value c) ≡ is_hex c
    go true e = rw e (le-leb (digit_value c) 15 (omega (arith, ltb-true (digit_value c) 16 e)))
    go false e = rw e refl

prefix_map : (p : ℕ → Bool) (f : ℕ → ℕ) (text : List ℕ) → prefix_len p (map f text) ≡ prefix_len (λ c. p (f c)) text
prefix_map p f [] = refl
prefix_map p f (c ∷ text) = ap (λ n. cond (p (f c)) (1 + n) 0) (prefix_map p f text)

pub front_digits_are : (text values : List ℕ) → values ≡ map value text → prefix_len small values ≡ prefix_len is_hex text
front_digits_are text values is = ap (prefix_len small) is ∙ prefix_map small value text ∙ (λ i. prefix_len (λ c. small_value c i) text)

joined_take : (n : ℕ) (v : List ℕ) → 2 * n ≤ length v → joined_all (take (2 * n) v) ≡ take n (joined_all v)
joined_take zero v within = refl
joined_take (suc n) [] within = absurd (omega (arith, within))
joined_take (suc n) (c ∷ []) within = absurd (omega (arith, within))
joined_take (suc n) (high ∷ low ∷ v) within =
    let two : 2 * suc n ≡ suc (suc (2 * n)) = omega arith in
    ap (λ k. joined_all (take k (high ∷ low ∷ v))) two ∙ ap (λ rest. joined high low ∷ rest) (joined_take n v (omega (arith, within)))

abbrev pub eight_joined : List ℕ → List ℕ
eight_joined v = map (λ k. joined (get_or v (2 * k) 0) (get_or v (2 * k + 1) 0)) (range_with_len 0 8)

eight_join : (v : List ℕ) → length v ≡ 16 → eight_joined (v ++ v) ≡ joined_all v
eight_join v long = subst (λ l. eight_joined (l ++ l) ≡ joined_all l) (pick_l_whole 0 v 16 long) refl

-- the bytes that stand in front of what was put
put_in_front : (n : ℕ) (out bytes : List ℕ) → n ≤ 8 → length bytes ≡ 8 → 8 ≤ length out → take n (put_chunk 0 out bytes) ≡ take n bytes
put_in_front n out bytes few long room =
    sym (take-take n 8 (put_chunk 0 out bytes) few) ∙ ap (take n) (take_more_put_chunk 0 out bytes 8 (omega (arith, long)) room)

-- the bytes of the pairs in front
module _ (text values out : List ℕ) (n : ℕ) (long : 16 ≤ length text) (room : 8 ≤ length out) (is : values ≡ map value (take 16 text)) (count : n ≡ prefix_len small values) where
  size : length values ≡ 16
  size = ap length is ∙ length-map (take 16 text) value ∙ length-take-le 16 text long

  pub few : n / 2 ≤ 8
  few = omega (arith, count, size, prefix_len-le-length small values)

  abbrev pub run : List ℕ
  run = take (2 * (n / 2)) text

  run_long : length run ≡ 2 * (n / 2)
  run_long = length-take-le (2 * (n / 2)) text (omega (arith, few, long))

  of_front : take (2 * (n / 2)) values ≡ map value run
  of_front = ap (take (2 * (n / 2))) is ∙ take-map value (2 * (n / 2)) (take 16 text) ∙ ap (map value) (take-take (2 * (n / 2)) 16 text (omega (arith, few)))

  all_digits : (k : ℕ) → k < length run → is_hex (get_or run k 0) ≡ true
  all_digits k inside =
      let near : k < 2 * (n / 2) = omega (arith, inside, run_long) in
      let low : get_or values k 0 ≤ 15 = leb-true (get_or values k 0) 15 (prefix_len_passes small values k 0 (omega (arith, count, near))) in
      let same : get_or values k 0 ≡ value (get_or run k 0) =
      sym (get_or-take (2 * (n / 2)) values k 0 near) ∙ ap (λ l. get_or l k 0) of_front ∙ get_or-map value run k 0 0 inside in
      is_digit (get_or run k 0) (subst (λ x. x ≤ 15) same low)

  pub front_bytes : hex_bytes run ≡ Some (take (n / 2) (put_chunk 0 out (eight_joined (values ++ values))))
  front_bytes =
      all_pairs (n / 2) run run_long all_digits
      ∙ ap Some (ap joined_all (sym of_front) ∙ joined_take (n / 2) values (omega (arith, few, size)) ∙ ap (take (n / 2)) (sym (eight_join values size))
      ∙ sym (put_in_front (n / 2) out (eight_joined (values ++ values)) few refl room))

-- pairs behind others
pub pairs_append : (digits others bytes more : List ℕ) → hex_bytes digits ≡ Some bytes → hex_bytes others ≡ Some more → hex_bytes (digits ++ others) ≡ Some (bytes ++ more)
pairs_append [] others bytes more h later = let none : [] ≡ bytes = cc h in later ∙ ap (λ b. Some (b ++ more)) none
pairs_append (c ∷ []) others bytes more h later = cc h
pairs_append (high ∷ low ∷ digits) others bytes more h later =
    let first = byte_of high low digits bytes h in
    hex_bytes-some high low (digits ++ others) first.0
    ∙ ap (option_map (λ rest. pair_value high low ∷ rest)) (pairs_append digits others first.1.0 more first.1.1 later)
    ∙ ap (λ b. Some (b ++ more)) first.1.2

-- more pairs of a text, whose bytes were put behind those before them
pub pairs_put : (text out part : List ℕ) (done more k : ℕ) → done ≤ length out → more ≤ length part → hex_bytes (take (2 * done) text) ≡ Some (take done out) →
    hex_bytes (take (2 * more) (take (length text - 2 * done) (drop (2 * done) text))) ≡ Some (take more part) → hex_bytes (take (2 * (done + more)) text) ≡ Some (take (done + more) (put_mid done k out part))
pairs_put text out part done more k within few before next =
    let sum : 2 * (done + more) ≡ 2 * done + 2 * more = omega arith in
    ap (λ n. hex_bytes (take n text)) sum ∙ ap hex_bytes (take-add (2 * done) (2 * more) text)
    ∙ pairs_append (take (2 * done) text) (take (2 * more) (drop (2 * done) text)) (take done out) (take more part) before
    (ap (λ l. hex_bytes (take (2 * more) l)) (sym (take_rest text (2 * done))) ∙ next)
    ∙ ap Some (sym (take-put_mid_more out part done k more within few))
