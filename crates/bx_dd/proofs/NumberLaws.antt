-- A number is what its form says.
use Rattle.std.proofs.Common.{◌≡◌, ◌↔◌, ◌⊎◌, inl, inr, ℕ, zero, suc, ◌+◌, ◌*◌, ◌-◌, ◌^◌, ◌<◌, ◌≤◌, Bool, true, false, ◌&&◌, cond, eqb, Option, None, Some, Ok, Err, List, [], ◌∷◌, ◌++◌, length, get_or, take, drop, All, append_assoc, append-nil, length-append, refl, arith, sym, ap, subst, ◌∙◌}
use Rattle.std.specs.Char.{is_digit}
use Rattle.std.specs.List.{prefix_len}
use Rattle.std.specs.Option.{option_map, option_and_then}
use Rattle.std.specs.Str.Parse.{digits_value}
use Rattle.std.proofs.lemmas.Bool.{eqb-true, eqb-false, ne_eqb, cases_lt, false≢true}
use Rattle.std.proofs.lemmas.List.{take-append-drop, get_or-take, get_or-drop, get_or_past, get_or_append_left, length-take-le, take_at}
use Rattle.std.proofs.lemmas.List.Sums.{prefix_len_passes, prefix_len_stops, prefix_len-le-length, prefix_len_is}
use Rattle.std.proofs.Math.Seq.{drop-append-add}
use Rattle.bx_text.specs.declared.number.size.SizeFault.TheVariants.{Bad, TooLarge}
use Rattle.bx_text.specs.private.Number.{in_first, factors_of}
use Rattle.bx_text.specs.SizeGrammar.{with_x}
use Rattle.bx_text.proofs.NumberLaws.{unmapped}
use Rattle.bx_text.proofs.SizeLaws.{outcome}
use Rattle.bx_dd.specs.Number.{power_unit, suffix_unit, factor_of, product_value, product_number}
use Rattle.bx_dd.specs.NumberGrammar.{IsFactor, HaveProduct, IsNumberOf}

-- ---- one factor

-- what is read as digits and a suffix is them
factor_form : (text : List ℕ) (n : ℕ) → factor_of text ≡ Some n → IsFactor text n
factor_form text n h = by_count (eqb count 0) refl h
  where
    p : ℕ → Bool
    p c = is_digit c 10

    count : ℕ
    count = prefix_len p text

    next : (count < length text) ⊎ (length text ≤ count) → is_digit (get_or (drop count text) 0 0) 10 ≡ false
    next (inl inside) =
        let here : count + 0 ≡ count = omega arith in
        rw (get_or-drop count text 0 0, here) (prefix_len_stops p text 0 inside)
    next (inr past) = rw (get_or-drop count text 0 0, get_or_past text (count + 0) 0 (omega arith)) refl

    by_count : (b : Bool) → eqb count 0 ≡ b → cond b None (option_map (λ unit. digits_value 10 (take count text) * unit) (suffix_unit (drop count text))) ≡ Some n → IsFactor text n
    by_count true e g = cc g
    by_count false e g =
        let found = unmapped (λ unit. digits_value 10 (take count text) * unit) (suffix_unit (drop count text)) n g in
        let size : length (take count text) ≡ count = length-take-le count text (prefix_len-le-length p text) in record {
          digits = take count text;
          suffix = drop count text;
          unit = found.0;
          spelled = sym (take-append-drop count text);
          some = omega (arith, size, eqb-false count 0 e);
          are_digits = λ k d inside. rw (get_or-take count text k d (omega (arith, size))) (prefix_len_passes p text k d (omega (arith, size)));
          ends = next (cases_lt count (length text));
          known = found.1;
          value = sym found.2;
        }

-- digits and a suffix are read
factor_read : (text : List ℕ) (n : ℕ) → IsFactor text n → factor_of text ≡ Some n
factor_read text n is =
    let p = λ (c : ℕ). is_digit c 10 in
    let whole = is.digits ++ is.suffix in
    let m = length is.digits in
    let after : get_or whole m 0 ≡ get_or is.suffix 0 0 = sym (get_or-drop m whole 0 0 ∙ ap (λ k. get_or whole k 0) (omega arith)) ∙ ap (λ l. get_or l 0 0) (behind is.digits is.suffix) in
    let count : prefix_len p whole ≡ m = prefix_len_is p whole m 0 (omega (arith, length-append is.digits is.suffix))
    (λ k lt. rw (get_or_append_left is.digits is.suffix 0 k lt) (is.are_digits k 0 lt))
    (λ inside. rw after is.ends) in
    let some : eqb m 0 ≡ false = ne_eqb m 0 (λ z. absurd (omega (arith, is.some, z))) in
    rw (is.spelled, count, some, take_at is.digits is.suffix m refl, behind is.digits is.suffix, is.known, ← is.value) refl
  where
    behind : (xs ys : List ℕ) → drop (length xs) (xs ++ ys) ≡ ys
    behind xs ys = let e : length xs + 0 ≡ length xs = omega arith in ap (λ k. drop k (xs ++ ys)) (sym e) ∙ drop-append-add xs ys 0

-- ---- the parts between letters x

in_first-with_x : (c : ℕ) (first : List ℕ) (more : List (List ℕ)) → c ∷ with_x first more ≡ with_x (c ∷ first) more
in_first-with_x c first [] = refl
in_first-with_x c first (second ∷ more) = refl

-- the parts and what they are parts of
parts_of : (text : List ℕ) → (first : List ℕ) × (more : List (List ℕ)) × (factors_of text ≡ first ∷ more) × (text ≡ with_x first more)
parts_of [] = ([], [], refl, refl)
parts_of (c ∷ text) = go (eqb c 120) refl (parts_of text)
  where
    go : (b : Bool) → eqb c 120 ≡ b → ((first : List ℕ) × (more : List (List ℕ)) × (factors_of text ≡ first ∷ more) × (text ≡ with_x first more)) →
        (first : List ℕ) × (more : List (List ℕ)) × (cond b ([] ∷ factors_of text) (in_first c (factors_of text)) ≡ first ∷ more) × (c ∷ text ≡ with_x first more)
    go true e later =
        ([], later.0 ∷ later.1, ap (λ parts. [] ∷ parts) later.2, ap (λ t. c ∷ t) later.3 ∙ ap (λ d. d ∷ with_x later.0 later.1) (eqb-true c 120 e))
    go false e later =
        (c ∷ later.0, later.1, ap (in_first c) later.2, ap (λ t. c ∷ t) later.3 ∙ in_first-with_x c later.0 later.1)

-- no letter x
abbrev HasNoX : List ℕ → Type 0
HasNoX text = All (λ c. eqb c 120 ≡ false) text

-- a front without x stays in the first part
front_of : (front rest first : List ℕ) (more : List (List ℕ)) → HasNoX front → factors_of rest ≡ first ∷ more → factors_of (front ++ rest) ≡ (front ++ first) ∷ more
front_of [] rest first more none e = e
front_of (c ∷ front) rest first more none e =
    let here : eqb c 120 ≡ false = none 0 0 (omega arith) in
    let later = front_of front rest first more (λ k d inside. none (suc k) d (omega arith)) e in
    rw (here, later) refl

digit-x : (c : ℕ) → is_digit c 10 ≡ true → eqb c 120 ≡ false
digit-x c is = ne_eqb c 120 (λ e. false≢true (subst (λ d. is_digit d 10 ≡ true) e is))

-- no suffix has a letter x
no_unit : (unit : ℕ) → ◌≡◌ {A = Option ℕ} None (Some unit) → ⊥
no_unit unit h = cc h

neither_unit : (b : Bool) (unit : ℕ) → ◌≡◌ {A = Option ℕ} (cond b None None) (Some unit) → ⊥
neither_unit true unit h = cc h
neither_unit false unit h = cc h

never_both : (b : Bool) (o : Option ℕ) (unit : ℕ) → cond (b && false) o None ≡ Some unit → ⊥
never_both true o unit h = no_unit unit h
never_both false o unit h = no_unit unit h

suffix-x : (suffix : List ℕ) (unit : ℕ) → suffix_unit suffix ≡ Some unit → HasNoX suffix
suffix-x [] unit is = λ k d inside. absurd (omega arith)
suffix-x (c ∷ []) unit is = one
  where
    first : eqb c 120 ≡ false
    first = ne_eqb c 120 (λ e. no_unit unit (subst (λ x. suffix_unit (x ∷ []) ≡ Some unit) e is))

    one : HasNoX (c ∷ [])
    one zero d inside = first
    one (suc k) d inside = absurd (omega arith)
suffix-x (c ∷ b ∷ []) unit is = two
  where
    first : eqb c 120 ≡ false
    first = ne_eqb c 120 (λ e. neither_unit (eqb b 66) unit (subst (λ x. suffix_unit (x ∷ b ∷ []) ≡ Some unit) e is))

    second : eqb b 120 ≡ false
    second = ne_eqb b 120 (λ e. no_unit unit (subst (λ x. suffix_unit (c ∷ x ∷ []) ≡ Some unit) e is))

    two : HasNoX (c ∷ b ∷ [])
    two zero d inside = first
    two (suc zero) d inside = second
    two (suc (suc k)) d inside = absurd (omega arith)
suffix-x (c ∷ i ∷ b ∷ []) unit is = three
  where
    first : eqb c 120 ≡ false
    first = ne_eqb c 120 (λ e. neither_unit (eqb i 105 && eqb b 66) unit (subst (λ x. suffix_unit (x ∷ i ∷ b ∷ []) ≡ Some unit) e is))

    second : eqb i 120 ≡ false
    second = ne_eqb i 120 (λ e. no_unit unit (subst (λ x. suffix_unit (c ∷ x ∷ b ∷ []) ≡ Some unit) e is))

    third : eqb b 120 ≡ false
    third = ne_eqb b 120 (λ e. never_both (eqb i 105) (power_unit 1024 c) unit (subst (λ x. suffix_unit (c ∷ i ∷ x ∷ []) ≡ Some unit) e is))

    three : HasNoX (c ∷ i ∷ b ∷ [])
    three zero d inside = first
    three (suc zero) d inside = second
    three (suc (suc zero)) d inside = third
    three (suc (suc (suc k))) d inside = absurd (omega arith)
suffix-x (c ∷ d ∷ e ∷ f ∷ rest) unit is = absurd (no_unit unit is)

-- a factor in front stays in the first part
factor_front : (text rest first : List ℕ) (more : List (List ℕ)) (n : ℕ) → IsFactor text n → factors_of rest ≡ first ∷ more →
    factors_of (text ++ rest) ≡ (text ++ first) ∷ more
factor_front text rest first more n is e =
    let later = front_of is.suffix rest first more (suffix-x is.suffix is.unit is.known) e in
    let whole = front_of is.digits (is.suffix ++ rest) (is.suffix ++ first) more (λ k d inside. digit-x (get_or is.digits k d) (is.are_digits k d inside)) later in
    rw (is.spelled, append_assoc is.digits is.suffix rest, append_assoc is.digits is.suffix first) whole

-- the parts of factors with x between two are these
parts_back : (first : List ℕ) (more : List (List ℕ)) (n : ℕ) → HaveProduct (first ∷ more) n → factors_of (with_x first more) ≡ first ∷ more
parts_back first [] n are =
    let one : factors_of (first ++ []) ≡ (first ++ []) ∷ [] = factor_front first [] [] [] are.0 are.2 refl in
    rw (append-nil first) at one
parts_back first (second ∷ more) n are =
    let later : factors_of (with_x second more) ≡ second ∷ more = parts_back second more are.1 are.3 in
    factor_front first (120 ∷ with_x second more) [] (factors_of (with_x second more)) are.0 are.2 refl
    ∙ ap (λ p. p ∷ factors_of (with_x second more)) (append-nil first) ∙ ap (λ ps. first ∷ ps) later

-- ---- their product

product_form : (parts : List (List ℕ)) (n : ℕ) → product_value parts ≡ Some n → HaveProduct parts n
product_form [] n h = cc h
product_form (part ∷ parts) n h = go (factor_of part) refl (λ m e. product_form parts m e) h
  where
    go : (o : Option ℕ) → factor_of part ≡ o → ((m : ℕ) → product_value parts ≡ Some m → HaveProduct parts m) →
        option_and_then (λ first. option_map (λ rest. first * rest) (product_value parts)) o ≡ Some n → HaveProduct (part ∷ parts) n
    go None e later g = cc g
    go (Some first) e later g =
        let rest = unmapped (λ rest. first * rest) (product_value parts) n g in
        (first, rest.0, factor_form part first e, later rest.0 rest.1, sym rest.2)

product_read : (parts : List (List ℕ)) (n : ℕ) → HaveProduct parts n → product_value parts ≡ Some n
product_read [] n are = ap Some (sym are)
product_read (part ∷ parts) n are = rw (factor_read part are.0 are.2, product_read parts are.1 are.3, are.4) refl

-- ---- and what is read

product_is : (text : List ℕ) (n : ℕ) → product_value (factors_of text) ≡ Some n → IsNumberOf text n
product_is text n h =
    let parts = parts_of text in
    (parts.0, parts.1, parts.3, product_form (parts.0 ∷ parts.1) n (ap product_value (sym parts.2) ∙ h))

product_back : (text : List ℕ) (n : ℕ) → IsNumberOf text n → product_value (factors_of text) ≡ Some n
product_back text n is =
    ap (λ t. product_value (factors_of t)) is.2 ∙ ap product_value (parts_back is.0 is.1 n is.3) ∙ product_read (is.0 ∷ is.1) n is.3

-- a text reads as a number exactly where it is a product that isn't too large, is too large where it is a larger one, and else bad
pub number_has_form : (text : List ℕ) →
    ((n : ℕ) → product_number text ≡ Ok n ↔ (IsNumberOf text n × (n ≤ 2 ^ 40 - 1)))
    × (product_number text ≡ Err TooLarge ↔ ((n : ℕ) × IsNumberOf text n × (2 ^ 40 - 1 < n)))
    × (product_number text ≡ Err Bad ↔ ((n : ℕ) → IsNumberOf text n → ⊥))
number_has_form text = outcome (2 ^ 40 - 1) (IsNumberOf text) (product_value (factors_of text)) (product_is text) (product_back text)
