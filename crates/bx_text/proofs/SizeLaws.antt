-- A size is what its form says.
use Rattle.std.proofs.Common.{◌≡◌, ◌↔◌, ℕ, suc, ◌*◌, ◌<◌, ◌≤◌, Bool, true, false, cond, eqb, leb, Option, None, Some, Result, Ok, Err, List, [], ◌∷◌, ◌++◌, get_or, All, append_assoc, append-nil, refl, arith, sym, ap, subst, ◌∙◌}
use Rattle.std.specs.Char.{is_digit}
use Rattle.std.specs.Option.{option_map, option_and_then}
use Rattle.std.proofs.lemmas.Bool.{eqb-true, ne_eqb, le-leb, lt-leb, leb-true, leb-false, false≢true}
use Rattle.bx_text.specs.declared.number.size.SizeStyle.{SizeStyle}
use Rattle.bx_text.specs.declared.number.size.SizeStyle.TheVariants.{Count, Bare, Product}
use Rattle.bx_text.specs.declared.number.size.SizeFault.{SizeFault}
use Rattle.bx_text.specs.declared.number.size.SizeFault.TheVariants.{Bad, TooLarge}
use Rattle.bx_text.specs.Number.{units_of, some_digits, product_of, size_value, greatest}
use Rattle.bx_text.specs.private.Number.{within, in_first, factors_of}
use Rattle.bx_text.specs.NumberGrammar.{IsAmount}
use Rattle.bx_text.specs.SizeGrammar.{with_x, AreFactors, IsSize, SizeHasForm}
use Rattle.bx_text.proofs.NumberLaws.{number_has_form, unmapped, some_of, some_read}

-- ---- the parts between letters x

in_first-with_x : (c : ℕ) (first : List ℕ) (more : List (List ℕ)) → c ∷ with_x first more ≡ with_x (c ∷ first) more
in_first-with_x c first [] = refl
in_first-with_x c first (second ∷ more) = refl

-- the parts and what they are parts of
parts_of : (text : List ℕ) → (first : List ℕ) × (more : List (List ℕ)) × (factors_of text ≡ first ∷ more) × (text ≡ with_x first more)
parts_of [] = ([], [], refl, refl)
parts_of (c ∷ text) = go (eqb c 120) refl (parts_of text)
  where
    go : (b : Bool) → eqb c 120 ≡ b → ((first : List ℕ) × (more : List (List ℕ)) × (factors_of text ≡ first ∷ more) × (text ≡ with_x first more)) →
        (first : List ℕ) × (more : List (List ℕ)) × (cond b ([] ∷ factors_of text) (in_first c (factors_of text)) ≡ first ∷ more) × (c ∷ text ≡ with_x first more)
    go true e later =
        ([], later.0 ∷ later.1, ap (λ parts. [] ∷ parts) later.2, ap (λ t. c ∷ t) later.3 ∙ ap (λ d. d ∷ with_x later.0 later.1) (eqb-true c 120 e))
    go false e later =
        (c ∷ later.0, later.1, ap (in_first c) later.2, ap (λ t. c ∷ t) later.3 ∙ in_first-with_x c later.0 later.1)

-- no letter x
abbrev HasNoX : List ℕ → Type 0
HasNoX text = All (λ c. eqb c 120 ≡ false) text

-- a front without x stays in the first part
front_of : (front rest first : List ℕ) (more : List (List ℕ)) → HasNoX front → factors_of rest ≡ first ∷ more → factors_of (front ++ rest) ≡ (front ++ first) ∷ more
front_of [] rest first more none e = e
front_of (c ∷ front) rest first more none e =
    let here : eqb c 120 ≡ false = none 0 0 (omega arith) in
    let later = front_of front rest first more (λ k d inside. none (suc k) d (omega arith)) e in
    rw (here, later) refl

digit-x : (c : ℕ) → is_digit c 10 ≡ true → eqb c 120 ≡ false
digit-x c is = ne_eqb c 120 (λ e. false≢true (subst (λ d. is_digit d 10 ≡ true) e is))

suffix-x : (suffix : List ℕ) (unit : ℕ) → units_of Product suffix ≡ Some unit → HasNoX suffix
suffix-x [] unit is = λ k d inside. absurd (omega arith)
suffix-x (c ∷ []) unit is = λ k d inside. let first : k ≡ 0 = omega arith in rw first (ne_eqb c 120 (λ e. none (subst (λ x. units_of Product (x ∷ []) ≡ Some unit) e is)))
  where
    none : ◌≡◌ {A = Option ℕ} None (Some unit) → ⊥
    none h = cc h
suffix-x (c ∷ d ∷ rest) unit is = cc is

-- an amount in front stays in the first part
amount_front : (text rest first : List ℕ) (more : List (List ℕ)) (n : ℕ) → IsAmount Product 10 1 text n → factors_of rest ≡ first ∷ more →
    factors_of (text ++ rest) ≡ (text ++ first) ∷ more
amount_front text rest first more n is e =
    let later = front_of is.suffix rest first more (suffix-x is.suffix is.unit is.known) e in
    let whole = front_of is.digits (is.suffix ++ rest) (is.suffix ++ first) more (λ k d inside. digit-x (get_or is.digits k d) (is.are_digits k d inside)) later in
    rw (is.spelled, append_assoc is.digits is.suffix rest, append_assoc is.digits is.suffix first) whole

-- the parts of amounts with x between two are these
parts_back : (first : List ℕ) (more : List (List ℕ)) (n : ℕ) → AreFactors (first ∷ more) n → factors_of (with_x first more) ≡ first ∷ more
parts_back first [] n are =
    let one : factors_of (first ++ []) ≡ (first ++ []) ∷ [] = amount_front first [] [] [] are.0 are.2 refl in
    rw (append-nil first) at one
parts_back first (second ∷ more) n are =
    let later : factors_of (with_x second more) ≡ second ∷ more = parts_back second more are.1 are.3 in
    amount_front first (120 ∷ with_x second more) [] (factors_of (with_x second more)) are.0 are.2 refl
    ∙ ap (λ p. p ∷ factors_of (with_x second more)) (append-nil first) ∙ ap (λ ps. first ∷ ps) later

-- ---- their product

product_form : (parts : List (List ℕ)) (n : ℕ) → product_of parts ≡ Some n → AreFactors parts n
product_form [] n h = cc h
product_form (part ∷ parts) n h = go (some_digits Product 10 part) refl (λ m e. product_form parts m e) h
  where
    go : (o : Option ℕ) → some_digits Product 10 part ≡ o → ((m : ℕ) → product_of parts ≡ Some m → AreFactors parts m) →
        option_and_then (λ first. option_map (λ rest. first * rest) (product_of parts)) o ≡ Some n → AreFactors (part ∷ parts) n
    go None e later g = cc g
    go (Some first) e later g =
        let rest = unmapped (λ rest. first * rest) (product_of parts) n g in
        (first, rest.0, some_of Product 10 part first (omega arith) e, later rest.0 rest.1, sym rest.2)

product_read : (parts : List (List ℕ)) (n : ℕ) → AreFactors parts n → product_of parts ≡ Some n
product_read [] n are = ap Some (sym are)
product_read (part ∷ parts) n are = rw (some_read Product 10 part are.0 are.2, product_read parts are.1 are.3, are.4) refl

-- ---- sizes

size_form : (style : SizeStyle) (text : List ℕ) (n : ℕ) → size_value style text ≡ Some n → IsSize style text n
size_form Count text n h = (number_has_form Count text n).0 h
size_form Bare text n h = (number_has_form Bare text n).0 h
size_form Product text n h =
    let parts = parts_of text in
    (parts.0, parts.1, parts.3, product_form (parts.0 ∷ parts.1) n (ap product_of (sym parts.2) ∙ h))

size_read : (style : SizeStyle) (text : List ℕ) (n : ℕ) → IsSize style text n → size_value style text ≡ Some n
size_read Count text n is = (number_has_form Count text n).1 is
size_read Bare text n is = (number_has_form Bare text n).1 is
size_read Product text n is =
    ap (λ t. product_of (factors_of t)) is.2 ∙ ap product_of (parts_back is.0 is.1 n is.3) ∙ product_read (is.0 ∷ is.1) n is.3

-- ---- and what is read

module _ (most : ℕ) (P : ℕ → Type 0) (value : Option ℕ) (form : (n : ℕ) → value ≡ Some n → P n) (read : (n : ℕ) → P n → value ≡ Some n) where
  fits : (n : ℕ) → within most value ≡ Ok n → P n × (n ≤ most)
  fits n = go value refl
    where
      go : (o : Option ℕ) → value ≡ o → within most o ≡ Ok n → P n × (n ≤ most)
      go None e h = cc h
      go (Some m) e h = by (leb m most) refl h
        where
          by : (b : Bool) → leb m most ≡ b → ◌≡◌ {A = Result ℕ SizeFault} (cond b (Ok m) (Err TooLarge)) (Ok n) → P n × (n ≤ most)
          by true few g = let same : m ≡ n = cc g in (form n (e ∙ ap Some same), omega (arith, same, leb-true m most few))
          by false few g = cc g

  large : within most value ≡ Err TooLarge → (n : ℕ) × P n × (most < n)
  large = go value refl
    where
      go : (o : Option ℕ) → value ≡ o → within most o ≡ Err TooLarge → (n : ℕ) × P n × (most < n)
      go None e h = cc h
      go (Some m) e h = by (leb m most) refl h
        where
          by : (b : Bool) → leb m most ≡ b → ◌≡◌ {A = Result ℕ SizeFault} (cond b (Ok m) (Err TooLarge)) (Err TooLarge) → (n : ℕ) × P n × (most < n)
          by true few g = cc g
          by false few g = (m, form m e, leb-false m most few)

  none : within most value ≡ Err Bad → (n : ℕ) → P n → ⊥
  none h n is = let e = read n is in go (leb n most) (sym (ap (within most) e) ∙ h)
    where
      go : (b : Bool) → ◌≡◌ {A = Result ℕ SizeFault} (cond b (Ok n) (Err TooLarge)) (Err Bad) → ⊥
      go true g = cc g
      go false g = cc g

  is_none : ((n : ℕ) → P n → ⊥) → within most value ≡ Err Bad
  is_none never = go value refl
    where
      go : (o : Option ℕ) → value ≡ o → within most o ≡ Err Bad
      go None e = refl
      go (Some m) e = absurd (never m (form m e))

  pub outcome : ((n : ℕ) → within most value ≡ Ok n ↔ (P n × (n ≤ most))) × (within most value ≡ Err TooLarge ↔ ((n : ℕ) × P n × (most < n)))
      × (within most value ≡ Err Bad ↔ ((n : ℕ) → P n → ⊥))
  outcome = (
    λ n. (fits n, λ is. ap (within most) (read n is.0) ∙ ap (λ b. cond b (Ok n) (Err TooLarge)) (le-leb n most is.1)),
    (large, λ is. ap (within most) (read is.0 is.1) ∙ ap (λ b. cond b (Ok is.0) (Err TooLarge)) (lt-leb is.0 most is.2)),
    (none, is_none),
  )

pub size_has_form : SizeHasForm
size_has_form style text = outcome (greatest style) (IsSize style text) (size_value style text) (size_form style text) (size_read style text)
