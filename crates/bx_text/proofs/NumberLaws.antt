-- A number is what its form says.
use Rattle.std.proofs.Common.{◌≡◌, ◌⊎◌, ℕ, ◌+◌, ◌*◌, ◌<◌, ◌≤◌, Bool, true, false, ◌||◌, cond, eqb, Option, None, Some, List, [], ◌∷◌, ◌++◌, length, get_or, take, drop, refl, arith, sym, ap, ◌∙◌, inl, inr, ⊎_elim, length-append}
use Rattle.std.specs.Prelude.{nat_lt}
use Rattle.std.specs.Char.{is_digit}
use Rattle.std.specs.List.{prefix_len}
use Rattle.std.specs.Option.{option_map}
use Rattle.std.specs.Str.Parse.{digits_value}
use Rattle.std.proofs.lemmas.Bool.{eqb-true, eqb-false, ne_eqb, cases_lt}
use Rattle.std.proofs.lemmas.Bool.Decides.{nat_tests}
use Rattle.std.proofs.lemmas.List.{take-append-drop, get_or-take, get_or-drop, get_or_past, get_or_append_left, length-take-le, take_at}
use Rattle.std.proofs.lemmas.List.Sums.{prefix_len_passes, prefix_len_stops, prefix_len-le-length, prefix_len_is}
use Rattle.std.proofs.Math.Seq.{drop-append-add}
use Rattle.bx_text.specs.declared.number.size.SizeStyle.{SizeStyle}
use Rattle.bx_text.specs.Number.{digit_count, units_of, with_suffix, some_digits, after_zero, prefixed}
use Rattle.bx_text.specs.NumberGrammar.{IsAmount, IsDecimal, IsHexadecimal, IsOctal, NumberHasForm}

pub unmapped : {A B : Type 0} (f : A → B) (o : Option A) (y : B) → option_map f o ≡ Some y → (x : A) × (o ≡ Some x) × (f x ≡ y)
unmapped f None y h = cc
unmapped f (Some x) y h = (x, refl, cc h)

no_digit : (base : ℕ) → base ≤ 36 → is_digit 0 base ≡ false
no_digit base few = let e : nat_lt 36 base ≡ false = grind (arith, nat_tests) in e

-- what is read as digits and a suffix is them
amount_of : (style : SizeStyle) (base : ℕ) (text : List ℕ) (n least : ℕ) → base ≤ 36 → least ≤ digit_count base text → with_suffix style base text ≡ Some n →
    IsAmount style base least text n
amount_of style base text n least few enough h =
    let p = λ (c : ℕ). is_digit c base in
    let count = prefix_len p text in
    let found = unmapped (λ unit. digits_value base (take count text) * unit) (units_of style (drop count text)) n h in
    let size : length (take count text) ≡ count = length-take-le count text (prefix_len-le-length p text) in record {
      digits = take count text;
      suffix = drop count text;
      unit = found.0;
      spelled = sym (take-append-drop count text);
      some = omega (arith, size, enough);
      are_digits = λ k d inside. rw (get_or-take count text k d (omega (arith, size))) (prefix_len_passes p text k d (omega (arith, size)));
      ends = next (cases_lt count (length text));
      known = found.1;
      value = sym found.2;
    }
  where
    next : (prefix_len (λ c. is_digit c base) text < length text) ⊎ (length text ≤ prefix_len (λ c. is_digit c base) text) →
        is_digit (get_or (drop (prefix_len (λ c. is_digit c base) text) text) 0 0) base ≡ false
    next (inl inside) =
        let here : prefix_len (λ c. is_digit c base) text + 0 ≡ prefix_len (λ c. is_digit c base) text = omega arith in
        rw (get_or-drop (prefix_len (λ c. is_digit c base) text) text 0 0, here) (prefix_len_stops (λ c. is_digit c base) text 0 inside)
    next (inr past) =
        rw (get_or-drop (prefix_len (λ c. is_digit c base) text) text 0 0, get_or_past text (prefix_len (λ c. is_digit c base) text + 0) 0 (omega arith)) (no_digit base few)

-- digits and a suffix are read
amount_read : (style : SizeStyle) (base least : ℕ) (text : List ℕ) (n : ℕ) → IsAmount style base least text n →
    (with_suffix style base text ≡ Some n) × (least ≤ digit_count base text)
amount_read style base least text n is =
    let p = λ (c : ℕ). is_digit c base in
    let whole = is.digits ++ is.suffix in
    let m = length is.digits in
    let after : get_or whole m 0 ≡ get_or is.suffix 0 0 = sym (get_or-drop m whole 0 0 ∙ ap (λ k. get_or whole k 0) (omega arith)) ∙ ap (λ l. get_or l 0 0) (behind is.digits is.suffix) in
    let count : prefix_len p whole ≡ m = prefix_len_is p whole m 0 (omega (arith, length-append is.digits is.suffix))
    (λ k lt. rw (get_or_append_left is.digits is.suffix 0 k lt) (is.are_digits k 0 lt))
    (λ inside. rw after is.ends) in
    (rw (is.spelled, count, take_at is.digits is.suffix m refl, behind is.digits is.suffix, is.known, ← is.value) refl, rw (is.spelled, count) is.some)
  where
    behind : (xs ys : List ℕ) → drop (length xs) (xs ++ ys) ≡ ys
    behind xs ys = let e : length xs + 0 ≡ length xs = omega arith in ap (λ k. drop k (xs ++ ys)) (sym e) ∙ drop-append-add xs ys 0

pub some_of : (style : SizeStyle) (base : ℕ) (text : List ℕ) (n : ℕ) → base ≤ 36 → some_digits style base text ≡ Some n → IsAmount style base 1 text n
some_of style base text n few h = by_count (eqb (digit_count base text) 0) refl h
  where
    by_count : (b : Bool) → eqb (digit_count base text) 0 ≡ b → cond b None (with_suffix style base text) ≡ Some n → IsAmount style base 1 text n
    by_count true e g = cc g
    by_count false e g = amount_of style base text n 1 few (omega (arith, eqb-false (digit_count base text) 0 e)) g

pub some_read : (style : SizeStyle) (base : ℕ) (text : List ℕ) (n : ℕ) → IsAmount style base 1 text n → some_digits style base text ≡ Some n
some_read style base text n is =
    let read = amount_read style base 1 text n is in
    let e : eqb (digit_count base text) 0 ≡ false = ne_eqb (digit_count base text) 0 (λ z. absurd (omega (arith, read.1, z))) in
    rw e read.0

either : (a b : Bool) → (a || b) ≡ true → (a ≡ true) ⊎ (b ≡ true)
either true b h = inl refl
either false b h = inr h

neither : (a b : Bool) → (a || b) ≡ false → (a ≡ false) × (b ≡ false)
neither true b h = cc
neither false b h = (refl, h)

is_x : (x : ℕ) → (x ≡ 120) ⊎ (x ≡ 88) → (eqb x 120 || eqb x 88) ≡ true
is_x x (inl e) = rw e refl
is_x x (inr e) = rw e refl

-- behind a 0
zero_form : (style : SizeStyle) (c : ℕ) (text : List ℕ) (n : ℕ) → c ≡ 48 → after_zero style text ≡ Some n → IsHexadecimal style (c ∷ text) n ⊎ IsOctal style (c ∷ text) n
zero_form style c [] n is h =
    inr ([], ap (λ d. d ∷ []) is, (λ e. absurd (omega (arith, e))), (λ e. absurd (omega (arith, e))), amount_of style 8 [] n 0 (omega arith) (omega arith) h)
zero_form style c (x ∷ text) n is h = by_x (eqb x 120 || eqb x 88) refl h
  where
    by_x : (b : Bool) → (eqb x 120 || eqb x 88) ≡ b → cond b (some_digits style 16 text) (with_suffix style 8 (x ∷ text)) ≡ Some n →
        IsHexadecimal style (c ∷ x ∷ text) n ⊎ IsOctal style (c ∷ x ∷ text) n
    by_x true e g =
        inl (x, text, ap (λ d. d ∷ x ∷ text) is, ⊎_elim (λ p. inl (eqb-true x 120 p)) (λ p. inr (eqb-true x 88 p)) (either (eqb x 120) (eqb x 88) e), some_of style 16 text n (omega arith) g)
    by_x false e g =
        let both = neither (eqb x 120) (eqb x 88) e in
        inr (x ∷ text, ap (λ d. d ∷ x ∷ text) is, eqb-false x 120 both.0, eqb-false x 88 both.1, amount_of style 8 (x ∷ text) n 0 (omega arith) (omega arith) g)

to_form : (style : SizeStyle) (text : List ℕ) (n : ℕ) → prefixed style text ≡ Some n → IsDecimal style text n ⊎ (IsHexadecimal style text n ⊎ IsOctal style text n)
to_form style [] n h = cc h
to_form style (c ∷ text) n h = by_zero (eqb c 48) refl h
  where
    by_zero : (b : Bool) → eqb c 48 ≡ b → cond b (after_zero style text) (some_digits style 10 (c ∷ text)) ≡ Some n →
        IsDecimal style (c ∷ text) n ⊎ (IsHexadecimal style (c ∷ text) n ⊎ IsOctal style (c ∷ text) n)
    by_zero true e g = inr (zero_form style c text n (eqb-true c 48 e) g)
    by_zero false e g = inl (eqb-false c 48 e, some_of style 10 (c ∷ text) n (omega arith) g)

from_decimal : (style : SizeStyle) (text : List ℕ) (n : ℕ) → IsDecimal style text n → prefixed style text ≡ Some n
from_decimal style [] n is = absurd (omega (arith, ap length is.1.spelled, length-append is.1.digits is.1.suffix, is.1.some))
from_decimal style (c ∷ text) n is = let e : eqb c 48 ≡ false = ne_eqb c 48 is.0 in rw e (some_read style 10 (c ∷ text) n is.1)

from_hexadecimal : (style : SizeStyle) (text : List ℕ) (n : ℕ) → IsHexadecimal style text n → prefixed style text ≡ Some n
from_hexadecimal style text n is = rw (is.2, is_x is.0 is.3) (some_read style 16 is.1 n is.4)

octal_read : (style : SizeStyle) (rest : List ℕ) (n : ℕ) → (get_or rest 0 0 ≡ 120 → ⊥) → (get_or rest 0 0 ≡ 88 → ⊥) → IsAmount style 8 0 rest n → after_zero style rest ≡ Some n
octal_read style [] n p q is = (amount_read style 8 0 [] n is).0
octal_read style (x ∷ rest) n p q is =
    let a : eqb x 120 ≡ false = ne_eqb x 120 p in
    let b : eqb x 88 ≡ false = ne_eqb x 88 q in
    rw (a, b) (amount_read style 8 0 (x ∷ rest) n is).0

from_octal : (style : SizeStyle) (text : List ℕ) (n : ℕ) → IsOctal style text n → prefixed style text ≡ Some n
from_octal style text n is = rw is.1 (octal_read style is.0 n is.2 is.3 is.4)

pub number_has_form : NumberHasForm
number_has_form style text n =
    (to_form style text n, λ forms. ⊎_elim (from_decimal style text n) (λ more. ⊎_elim (from_hexadecimal style text n) (from_octal style text n) more) forms)
