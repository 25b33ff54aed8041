-- Numbers that stop at a greatest one.
use Rattle.std.proofs.Common.{◌≡◌, ℕ, zero, suc, ◌+◌, ◌-◌, ◌*◌, ◌^◌, ◌<◌, ◌≤◌, min, Bool, true, false, cond, Option, None, Some, List, [], ◌∷◌, length, get_or, take, drop, refl, arith, sym, ap, ◌∙◌, ⊎_elim}
use Rattle.std.specs.Option.{option_map, option_and_then}
use Rattle.std.specs.Char.{digit_value, is_digit}
use Rattle.std.specs.Str.Parse.{digits_value, AllDigits}
use Rattle.std.proofs.Math.Nat.{mul-le-mul_left, pow-le-pow_right}
use Rattle.std.proofs.lemmas.Bool.{cases_lt, cases_eq, ne_eqb, ltb-true, lt-ltb, le-leb, eq-eqb}
use Rattle.std.specs.List.{prefix_len}
use Rattle.std.proofs.lemmas.Int.Digits.{digits_value-lt}
use Rattle.std.proofs.lemmas.List.{get_or-drop, drop-drop, length-drop}
use Rattle.bx_text.specs.Number.{product_of, some_digits, hex_number}
use Rattle.bx_text.specs.private.Number.{factors_of}
use Rattle.bx_text.specs.private.Capped.{capped, capped_value}
use Rattle.bx_text.specs.declared.number.size.SizeStyle.TheVariants.{Product}

-- one digit more
pub cap_digit : (v b d m : ℕ) → 1 ≤ b → min (min (min v m * b) m + d) m ≡ min (v * b + d) m
cap_digit v b d m pos = ⊎_elim small large (cases_lt m v)
  where
    small : m < v → min (min (min v m * b) m + d) m ≡ min (v * b + d) m
    small lt =
        let one : m * 1 ≤ m * b = mul-le-mul_left m pos in
        let two : v * 1 ≤ v * b = mul-le-mul_left v pos in
        let e : min v m ≡ m = omega arith in
        rw e (omega arith)

    large : v ≤ m → min (min (min v m * b) m + d) m ≡ min (v * b + d) m
    large le =
        let e : min v m ≡ v = omega arith in
        rw e (omega arith)

cap_both : (a b m : ℕ) → a ≤ m → b ≤ m → min (min a m * min b m) m ≡ min (a * b) m
cap_both a b m p q =
    let e : min a m ≡ a = omega arith in
    let f : min b m ≡ b = omega arith in
    rw (e, f) refl

cap_zero : (a b m : ℕ) → b ≡ 0 → min (min a m * min b m) m ≡ min (a * b) m
cap_zero a b m z =
    let k : min b m ≡ 0 = omega arith in
    rw (k, z) (omega arith)

cap_over : (a b m : ℕ) → m < a → 1 ≤ b → 1 ≤ m → min (min a m * min b m) m ≡ min (a * b) m
cap_over a b m lt some some_m =
    let e : min a m ≡ m = omega arith in
    let one : 1 ≤ min b m = omega arith in
    let up : m * 1 ≤ m * min b m = mul-le-mul_left m one in
    let over : a * 1 ≤ a * b = mul-le-mul_left a some in
    rw e (omega arith)

cap_none : (a b m : ℕ) → m ≡ 0 → min (min a m * min b m) m ≡ min (a * b) m
cap_none a b m z = omega arith

cap_first : (a b m : ℕ) → m < a → min (min a m * min b m) m ≡ min (a * b) m
cap_first a b m lt =
    ⊎_elim (λ z. cap_zero a b m z) (λ some. ⊎_elim (λ z. cap_none a b m z) (λ some_m. cap_over a b m lt (omega arith) (omega arith)) (cases_eq m 0)) (cases_eq b 0)

-- what is read of a digit more
pub digit_more : (v w x y d b m old : ℕ) → v ≡ min old m → w ≡ min (v * b) m → x ≡ d → y ≡ min (w + x) m → 1 ≤ b → y ≡ min (old * b + d) m
digit_more v w x y d b m old e f g h pos =
    h ∙ ap (λ k. min k m) (ap (λ k. k + x) f ∙ ap (λ k. min (v * b) m + k) g ∙ ap (λ k. min (k * b) m + d) e) ∙ cap_digit old b d m pos

-- a product
pub cap_product : (a b m : ℕ) → min (min a m * min b m) m ≡ min (a * b) m
cap_product a b m =
    let turn : min a m * min b m ≡ min b m * min a m = omega arith in
    let back : b * a ≡ a * b = omega arith in
    ⊎_elim (λ lt. cap_first a b m lt)
    (λ le. ⊎_elim (λ lt. ap (λ k. min k m) turn ∙ cap_first b a m lt ∙ ap (λ k. min k m) back) (λ le2. cap_both a b m le le2) (cases_lt m b))
    (cases_lt m a)

cap_again : (a m : ℕ) → min (min a m) m ≡ min a m
cap_again a m = omega arith

-- the same, where only one of them stops
pub cap_left : (a b m : ℕ) → min (min a m * b) m ≡ min (a * b) m
cap_left a b m = sym (cap_product (min a m) b m) ∙ rw (cap_again a m) (cap_product a b m)

-- three factors
pub cap_three : (v f r m : ℕ) → min (min (v * min f m) m * r) m ≡ min (v * (f * r)) m
cap_three v f r m =
    cap_left (v * min f m) r m ∙ ap (λ k. min k m) (turn v (min f m) r) ∙ cap_left f (v * r) m ∙ ap (λ k. min k m) (back f v r)
  where
    turn : (v f r : ℕ) → v * f * r ≡ f * (v * r)
    turn v f r = omega arith

    back : (f v r : ℕ) → f * (v * r) ≡ v * (f * r)
    back f v r = omega arith

-- the first factor
pub factor_at : (text : List ℕ) (k : ℕ) → k < length text → get_or text k 0 ≡ 120 → ((j : ℕ) → j < k → get_or text j 0 ≡ 120 → ⊥) →
    factors_of text ≡ take k text ∷ factors_of (drop (suc k) text)
factor_at [] k inside is before = absurd (omega arith)
factor_at (c ∷ text) zero inside is before = rw is refl
factor_at (c ∷ text) (suc k) inside is before =
    rw (ne_eqb c 120 (before 0 (omega arith)), factor_at text k (omega arith) is (λ j lt. before (suc j) (omega arith))) refl

pub factor_last : (text : List ℕ) → ((j : ℕ) → j < length text → get_or text j 0 ≡ 120 → ⊥) → factors_of text ≡ text ∷ []
factor_last [] none = refl
factor_last (c ∷ text) none = rw (ne_eqb c 120 (none 0 (omega arith)), factor_last text (λ j lt. none (suc j) (omega arith))) refl

-- one factor more
times : (value n new : ℕ) (o p : Option ℕ) → option_map capped o ≡ Some n → new ≡ capped (value * n) →
    option_map (λ rest. capped (value * rest)) (option_and_then (λ first. option_map (λ rest. first * rest) p) o) ≡ option_map (λ rest. capped (new * rest)) p
times value n new None p e f = cc
times value n new (Some first) None e f = refl
times value n new (Some first) (Some rest) e f =
    let same : n ≡ capped first = cc in
    let product : new ≡ capped (value * capped first) = f ∙ ap (λ k. capped (value * k)) same in
    ap Some (sym (cap_three value first rest (2 ^ 64 - 1)) ∙ ap (λ k. capped (k * rest)) (sym product))

no_times : (value : ℕ) (o p : Option ℕ) → option_map capped o ≡ None → option_map (λ rest. capped (value * rest)) (option_and_then (λ first. option_map (λ rest. first * rest) p) o) ≡ None
no_times value None p e = refl
no_times value (Some first) p e = cc

module _ (whole : Option ℕ) (text part : List ℕ) (start value : ℕ) (all : whole ≡ option_map (λ rest. capped (value * rest)) (product_of (factors_of (drop start text)))) where
  module _ (i : ℕ) (from : start ≤ i) (inside : i < length text) (is : get_or text i 0 ≡ 120) (none : (k : ℕ) → start ≤ k → k < i → get_or text k 0 ≡ 120 → ⊥) (cut : part ≡ take (i - start) (drop start text)) where
    parts : factors_of (drop start text) ≡ part ∷ factors_of (drop (i + 1) text)
    parts =
        let k = i - start in
        let place : start + k ≡ i = omega arith in
        let next : start + suc k ≡ i + 1 = omega arith in
        let here : get_or (drop start text) k 0 ≡ 120 = get_or-drop start text k 0 ∙ ap (λ n. get_or text n 0) place ∙ is in
        factor_at (drop start text) k (omega (arith, length-drop start text)) here (λ j lt e. none (start + j) (omega arith) (omega arith) (sym (get_or-drop start text j 0) ∙ e))
        ∙ ap (λ p. p ∷ factors_of (drop (suc k) (drop start text))) (sym cut)
        ∙ ap (λ d. part ∷ factors_of d) (drop-drop (suc k) start text ∙ ap (λ n. drop n text) next)

    pub factor_more : (n new : ℕ) → capped_value (some_digits Product 10 part) ≡ Some n → new ≡ capped (value * n) →
        whole ≡ option_map (λ rest. capped (new * rest)) (product_of (factors_of (drop (i + 1) text)))
    factor_more n new e f = all ∙ ap (λ p. option_map (λ rest. capped (value * rest)) (product_of p)) parts ∙ times value n new (some_digits Product 10 part) (product_of (factors_of (drop (i + 1) text))) e f

    pub factor_bad : capped_value (some_digits Product 10 part) ≡ None → whole ≡ None
    factor_bad e = all ∙ ap (λ p. option_map (λ rest. capped (value * rest)) (product_of p)) parts ∙ no_times value (some_digits Product 10 part) (product_of (factors_of (drop (i + 1) text))) e

  module _ (none : (k : ℕ) → start ≤ k → k < length text → get_or text k 0 ≡ 120 → ⊥) (cut : part ≡ drop start text) where
    last_part : factors_of (drop start text) ≡ part ∷ []
    last_part = factor_last (drop start text) (λ j lt e. none (start + j) (omega arith) (omega (arith, lt, length-drop start text)) (sym (get_or-drop start text j 0) ∙ e)) ∙ ap (λ p. p ∷ []) (sym cut)

    pub last_more : (n new : ℕ) → capped_value (some_digits Product 10 part) ≡ Some n → new ≡ capped (value * n) → Some new ≡ whole
    last_more n new e f =
        let one : capped (new * 1) ≡ new = omega (arith, f) in
        sym (all ∙ ap (λ p. option_map (λ rest. capped (value * rest)) (product_of p)) last_part ∙ times value n new (some_digits Product 10 part) (Some 1) e f ∙ ap Some one)

    pub last_bad : capped_value (some_digits Product 10 part) ≡ None → whole ≡ None
    last_bad e = all ∙ ap (λ p. option_map (λ rest. capped (value * rest)) (product_of p)) last_part ∙ no_times value (some_digits Product 10 part) (Some 1) e

-- a number that fits
pub fits_cap : (n m : ℕ) → n ≤ m → min n m ≡ n
fits_cap n m le = omega arith

all_digits : (ds : List ℕ) → prefix_len (λ c. is_digit c 16) ds ≡ length ds → AllDigits 16 ds
all_digits [] e = tt
all_digits (c ∷ ds) e = go (is_digit c 16) refl e (all_digits ds)
  where
    go : (b : Bool) → is_digit c 16 ≡ b → cond b (1 + prefix_len (λ c. is_digit c 16) ds) 0 ≡ suc (length ds) → (prefix_len (λ c. is_digit c 16) ds ≡ length ds → AllDigits 16 ds) → AllDigits 16 (c ∷ ds)
    go true is e later = (ltb-true (digit_value c) 16 is, later (omega arith))
    go false is e later = absurd (omega arith)

pub hex_fits : (text : List ℕ) → length text ≤ 16 → prefix_len (λ c. is_digit c 16) text ≡ length text → digits_value 16 text < 2 ^ 64
hex_fits text few all =
    let below = digits_value-lt 16 text (all_digits text all) in
    let power : 16 ^ length text ≤ 16 ^ 16 = pow-le-pow_right (omega arith) few in
    omega arith

-- what is read of such a text
pub hex_read : (text : List ℕ) (n : ℕ) → 0 < length text → length text ≤ 16 → prefix_len (λ c. is_digit c 16) text ≡ length text → n ≡ capped (digits_value 16 text) → Some n ≡ hex_number text
hex_read text n some few all e =
    let fits = hex_fits text few all in
    let whole : n ≡ digits_value 16 text = e ∙ fits_cap (digits_value 16 text) (2 ^ 64 - 1) (omega arith) in
    rw (whole, lt-ltb 0 (length text) some, le-leb (length text) 16 few, all, eq-eqb (length text) (length text) refl) refl

-- no x below one place more
pub none_more : (text : List ℕ) (start i : ℕ) → ((k : ℕ) → start ≤ k → k < i → get_or text k 0 ≡ 120 → ⊥) → (get_or text i 0 ≡ 120 → ⊥) →
    (k : ℕ) → start ≤ k → k < i + 1 → get_or text k 0 ≡ 120 → ⊥
none_more text start i before here k from lt e =
    ⊎_elim (λ same. here (ap (λ n. get_or text n 0) (sym same) ∙ e)) (λ other. before k from (omega (arith, lt, other)) e) (cases_eq k i)
