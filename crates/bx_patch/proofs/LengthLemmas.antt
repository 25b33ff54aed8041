-- A line that tells lengths, or doesn't.
use Rattle.std.proofs.Common.{◌≡◌, ℕ, zero, suc, ◌+◌, ◌-◌, ◌*◌, ◌^◌, ◌<◌, ◌≤◌, Bool, true, false, take, List, [], ◌∷◌, ◌++◌, length, get_or, refl, sym, ap, subst, ◌∙◌, arith}
use Rattle.std.specs.Char.{digit_value}
use Rattle.std.specs.Prelude.{bytes_eq, codes}
use Rattle.std.specs.Str.Parse.{AllDigits, IsNumeral, digits_value}
use Rattle.std.proofs.lemmas.Bool.Decides.{nat_tests}
use Rattle.std.proofs.lemmas.Int.Digits.{digits_value_more}
use Rattle.std.proofs.lemmas.List.{length-take, length-append, get_or-append_right, take_more}
use Rattle.std.proofs.lemmas.Slice.Eq.{bytes_eq-Decides}
use Rattle.std.proofs.lemmas.Str.Parse.{IsNumeralModel, digits_value_short}
use Rattle.bx_patch.specs.Fault.{IsNoLength}
use Rattle.bx_patch.specs.Grammar.{IsLength}
use Rattle.bx_patch.specs.private.Read.{BeginsElse, HasNoSpace}
use Rattle.bx_patch.proofs.UniqueLemmas.{behind, behind_to}

pub true_false : (b : Bool) → b ≡ true → b ≡ false → ⊥
true_false b t f = cc

-- decimal digits
own : IsNumeralModel (AllDigits 10) (digits_value 10)
own = record { to = λ ds h. h; from = λ ds h. h; same = λ ds h. refl }

pub small_value : (text : List ℕ) (i : ℕ) → i < length text → length text ≤ 18 → AllDigits 10 (take i text) → digits_value 10 (take i text) < 10 ^ 17
small_value text i inside few all = digits_value_short own (take i text) 17 all (omega (arith, length-take {A = ℕ} i text))

digits_append : (xs ys : List ℕ) → AllDigits 10 xs → AllDigits 10 ys → AllDigits 10 (xs ++ ys)
digits_append [] ys a b = b
digits_append (x ∷ xs) ys a b = (a.0, digits_append xs ys a.1 b)

digit_is : (c : ℕ) → 48 ≤ c → c ≤ 57 → digit_value c ≡ c - 48
digit_is c low high = grind (arith, nat_tests)

pub digits_more : (text : List ℕ) (i c : ℕ) → i < length text → c ≡ get_or text i 0 → 48 ≤ c → c ≤ 57 → AllDigits 10 (take i text) → AllDigits 10 (take (i + 1) text)
digits_more text i c inside is low high all =
    let digit : digit_value (get_or text i 0) < 10 = subst (λ (n : ℕ). digit_value n < 10) is (omega (arith, digit_is c low high)) in
    subst (AllDigits 10) (sym (take_more text i 0 inside)) (digits_append (take i text) (get_or text i 0 ∷ []) all (digit, tt))

pub value_more : (text : List ℕ) (i c value : ℕ) → i < length text → c ≡ get_or text i 0 → 48 ≤ c → c ≤ 57 → value ≡ digits_value 10 (take i text) →
    10 * value + (c - 48) ≡ digits_value 10 (take (i + 1) text)
value_more text i c value inside is low high v =
    omega (arith, v, digits_value_more 10 text i inside, digit_is c low high, ap digit_value is)

-- what is no number
all_digit : (text : List ℕ) (i : ℕ) → AllDigits 10 text → i < length text → digit_value (get_or text i 0) < 10
all_digit [] i all inside = absurd (omega arith)
all_digit (c ∷ text) zero all inside = all.0
all_digit (c ∷ text) (suc i) all inside = all_digit text i all.1 (omega arith)

pub too_low : (c : ℕ) → c < 48 → digit_value c < 10 → ⊥
too_low c low digit = grind (arith, nat_tests)

pub too_high : (c : ℕ) → 57 < c → digit_value c < 10 → ⊥
too_high c high digit = grind (arith, nat_tests)

pub low_digit : (text : List ℕ) (i : ℕ) → i < length text → get_or text i 0 < 48 → AllDigits 10 text → ⊥
low_digit text i inside low all = too_low (get_or text i 0) low (all_digit text i all inside)

pub high_digit : (text : List ℕ) (i : ℕ) → i < length text → 57 < get_or text i 0 → AllDigits 10 text → ⊥
high_digit text i inside high all = too_high (get_or text i 0) high (all_digit text i all inside)

-- digits have no space
pub digits_space : (text : List ℕ) → AllDigits 10 text → HasNoSpace text
digits_space text all = λ k inside space. too_low (get_or text k 0) (omega (arith, space)) (all_digit text k all inside)

head_of : (c d : ℕ) (x y : List ℕ) → c ∷ x ≡ d ∷ y → c ≡ d
head_of c d x y e = cc

tail_of : (c d : ℕ) (x y : List ℕ) → c ∷ x ≡ d ∷ y → x ≡ y
tail_of c d x y e = cc

-- two texts in front of a space are one where neither has one
pub cut_at : (a b t u : List ℕ) → HasNoSpace a → HasNoSpace b → a ++ 32 ∷ t ≡ b ++ 32 ∷ u → (a ≡ b) × (t ≡ u)
cut_at [] [] t u x y e = (refl, tail_of 32 32 t u e)
cut_at [] (d ∷ b) t u x y e = absurd (y 0 (omega arith) (sym (head_of 32 d t (b ++ 32 ∷ u) e)))
cut_at (c ∷ a) [] t u x y e = absurd (x 0 (omega arith) (head_of c 32 (a ++ 32 ∷ t) u e))
cut_at (c ∷ a) (d ∷ b) t u x y e =
    let rest = cut_at a b t u (λ k inside. x (suc k) (omega arith)) (λ k inside. y (suc k) (omega arith)) (tail_of c d (a ++ 32 ∷ t) (b ++ 32 ∷ u) e) in
    (ap (λ n. n ∷ a) (head_of c d (a ++ 32 ∷ t) (b ++ 32 ∷ u) e) ∙ ap (λ xs. d ∷ xs) rest.0, rest.1)

take_front : (word rest : List ℕ) → take (length word) (word ++ rest) ≡ word
take_front [] rest = refl
take_front (c ∷ word) rest = ap (λ w. c ∷ w) (take_front word rest)

pub begins_else : (text word front : List ℕ) → front ≡ take (length word) text → bytes_eq front word ≡ false → BeginsElse text word
begins_else text word front is other = λ rest e.
    true_false (bytes_eq front word) ((bytes_eq-Decides front word).1 (is ∙ ap (take (length word)) e ∙ take_front word rest)) other

body_is : (line body : List ℕ) (o n : ℕ) → line ≡ codes "length " ++ body → (is : IsLength line o n) → body ≡ is.first ++ (codes " to " ++ is.second)
body_is line body o n e is = behind body (is.first ++ (codes " to " ++ is.second)) (sym e ∙ is.spelled)

pub no_parts : (line body : List ℕ) → line ≡ codes "length " ++ body → HasNoSpace body → IsNoLength line
no_parts line body e none = λ o n is.
    let same = body_is line body o n e is in
    let k : ℕ = length is.first in
    let inside : k < length body = omega (arith, ap length same, length-append is.first (codes " to " ++ is.second)) in
    let space : get_or body k 0 ≡ 32 = ap (λ b. get_or b k 0) same ∙ get_or-append_right is.first (codes " to " ++ is.second) k k 0 refl (omega arith) ∙ ap (λ j. get_or (codes " to " ++ is.second) j 0) (let z : k - k ≡ 0 = omega arith in z) in
    none k inside space

tail_is : (a tail b u : List ℕ) → HasNoSpace a → HasNoSpace b → get_or tail 0 0 ≡ 32 → a ++ tail ≡ b ++ 32 ∷ u → (a ≡ b) × (tail ≡ 32 ∷ u)
tail_is a [] b u x y space e = absurd (omega (arith, space))
tail_is a (c ∷ tail) b u x y space e =
    let front : a ++ 32 ∷ tail ≡ b ++ 32 ∷ u = ap (λ d. a ++ d ∷ tail) (sym space) ∙ e in
    let both = cut_at a b tail u x y front in
    (both.0, ap (λ d. d ∷ tail) space ∙ ap (λ t. 32 ∷ t) both.1)

module _ (line body a tail : List ℕ) (e : line ≡ codes "length " ++ body) (none : HasNoSpace a) (split : body ≡ a ++ tail) (space : get_or tail 0 0 ≡ 32) where
  length_parts : (o n : ℕ) (is : IsLength line o n) → (a ≡ is.first) × (tail ≡ codes " to " ++ is.second)
  length_parts o n is =
      tail_is a tail is.first (116 ∷ 111 ∷ 32 ∷ is.second) none (digits_space is.first is.old_digits.1) space (sym split ∙ body_is line body o n e is)

  pub no_second : BeginsElse tail (codes " to ") → IsNoLength line
  no_second else = λ o n is. else is.second (length_parts o n is).1

  pub no_old : (IsNumeral 10 a → length a ≤ 18 → ⊥) → IsNoLength line
  no_old refused = λ o n is.
      let same = (length_parts o n is).0 in
      refused (subst (IsNumeral 10) (sym same) is.old_digits) (omega (arith, ap length same, is.old_few))

  pub no_new : (second : List ℕ) → tail ≡ codes " to " ++ second → (IsNumeral 10 second → length second ≤ 18 → ⊥) → IsNoLength line
  no_new second f refused = λ o n is.
      let same = behind_to second is.second (tail_of 32 32 (116 ∷ 111 ∷ 32 ∷ second) (116 ∷ 111 ∷ 32 ∷ is.second) (sym f ∙ (length_parts o n is).1)) in
      refused (subst (IsNumeral 10) (sym same) is.new_digits) (omega (arith, ap length same, is.new_few))

-- a line that doesn't begin so tells no lengths
pub no_word : (line : List ℕ) → BeginsElse line (codes "length ") → IsNoLength line
no_word line else = λ o n is. else (is.first ++ (codes " to " ++ is.second)) is.spelled
