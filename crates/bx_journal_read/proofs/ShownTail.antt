-- A text of finished entries with a plain tail is read whole, whatever the entries' text columns have.
use Rattle.std.proofs.Common.{◌≡◌, ◌⊎◌, ◌≤◌, inl, inr, ℕ, zero, suc, ◌==◌, ◌&&◌, ◌||◌, Bool, true, false, not, cond, eqb, List, [], ◌∷◌, ◌++◌, length, drop, codes, refl, ap, sym, subst, ◌∙◌, arith}
use Rattle.std.specs.Prelude.{if◌then◌else◌}
use Rattle.std.specs.List.{list_all}
use Rattle.std.proofs.lemmas.List.Folds.{list_all-append}
use Rattle.std.proofs.lemmas.Bool.{and_parts, and_right, or_right}
use Rattle.bx_journal_format.proofs.ShownLemmas.{before_short}
use Rattle.bx_journal_format.specs.Finished.{IsFinished}
use Rattle.bx_journal_format.specs.Shown.{before_zero, from_zero, begins_with, ends_line, has_end, is_begun, is_left, is_lost, shown}
use Rattle.bx_journal_format.specs.Text.{Entry}
use Rattle.bx_journal_format.proofs.CleanLemmas.{clean_shown}
use Rattle.bx_journal_read.proofs.WindowsStated.{is_no_zero}

plain_before : (t : List ℕ) → list_all is_no_zero t ≡ true → before_zero t ≡ t
unfolding before_zero
plain_before [] h = refl
plain_before (b ∷ t) h = by (eqb b 0) refl (and_parts (is_no_zero b) (list_all is_no_zero t) h) (plain_before t)
  where
    by : (is : Bool) → eqb b 0 ≡ is → (not (b == 0) ≡ true) × (list_all is_no_zero t ≡ true) → (list_all is_no_zero t ≡ true → before_zero t ≡ t) → cond (eqb b 0) [] (b ∷ before_zero t) ≡ b ∷ t
    by true e h later = absurd (let f : not true ≡ true = sym (ap not e) ∙ h.0 in cc)
    by false e h later = rw e (ap (λ u. b ∷ u) (later h.1))

-- a zero in front, or none
zero_in : (a b : List ℕ) → (before_zero a ≡ a) ⊎ (before_zero (a ++ b) ≡ before_zero a)
unfolding before_zero
zero_in [] b = inl refl
zero_in (x ∷ a) b = by (eqb x 0) refl (zero_in a b)
  where
    by : (is : Bool) → eqb x 0 ≡ is → (before_zero a ≡ a) ⊎ (before_zero (a ++ b) ≡ before_zero a)
        → (cond (eqb x 0) [] (x ∷ before_zero a) ≡ x ∷ a) ⊎ (cond (eqb x 0) [] (x ∷ before_zero (a ++ b)) ≡ cond (eqb x 0) [] (x ∷ before_zero a))
    by true e later = inr (rw e refl)
    by false e (inl none) = inl (rw e (ap (λ u. x ∷ u) none))
    by false e (inr same) = inr (rw e (ap (λ u. x ∷ u) same))

before_append : (a b : List ℕ) → before_zero a ≡ a → list_all is_no_zero b ≡ true → before_zero (a ++ b) ≡ a ++ b
unfolding before_zero
before_append [] b none plain = plain_before b plain
before_append (x ∷ a) b none plain = by (eqb x 0) refl none (λ k. before_append a b k plain)
  where
    by : (is : Bool) → eqb x 0 ≡ is → cond (eqb x 0) [] (x ∷ before_zero a) ≡ x ∷ a → (before_zero a ≡ a → before_zero (a ++ b) ≡ a ++ b) → cond (eqb x 0) [] (x ∷ before_zero (a ++ b)) ≡ x ∷ (a ++ b)
    by true e h later = absurd (let f : [] ≡ x ∷ a = subst (λ c. cond c [] (x ∷ before_zero a) ≡ x ∷ a) e h in cc)
    by false e h later =
        let g : x ∷ before_zero a ≡ x ∷ a = subst (λ c. cond c [] (x ∷ before_zero a) ≡ x ∷ a) e h in
        rw e (ap (λ u. x ∷ u) (later (ap (drop 1) g)))

begins_append : (f a b : List ℕ) → begins_with f a ≡ true → begins_with f (a ++ b) ≡ true
unfolding begins_with
begins_append [] a b h = refl
begins_append (c ∷ f) [] b h = absurd (let g : false ≡ true = h in cc)
begins_append (c ∷ f) (x ∷ a) b h =
    let both = and_parts (x == c) (begins_with f a) h in
    rw (both.0) (begins_append f a b both.1)

ends_append : (a b : List ℕ) → ends_line a ≡ true → ends_line (a ++ b) ≡ true
unfolding ends_line
ends_append [] b h = absurd (let g : false ≡ true = h in cc)
ends_append (x ∷ a) b h = by (eqb x 10) refl (eqb x 0) refl h (ends_append a b)
  where
    by : (newline : Bool) → eqb x 10 ≡ newline → (none : Bool) → eqb x 0 ≡ none → cond (eqb x 10) true (cond (eqb x 0) false (ends_line a)) ≡ true → (ends_line a ≡ true → ends_line (a ++ b) ≡ true)
        → cond (eqb x 10) true (cond (eqb x 0) false (ends_line (a ++ b))) ≡ true
    by true e none f h later = rw e refl
    by false e true f h later = absurd (let g : false ≡ true = subst (λ c. cond c false (ends_line a) ≡ true) f (subst (λ c. cond c true (cond (eqb x 0) false (ends_line a)) ≡ true) e h) in cc)
    by false e false f h later = rw (e, f) (later (subst (λ c. cond c false (ends_line a) ≡ true) f (subst (λ c. cond c true (cond (eqb x 0) false (ends_line a)) ≡ true) e h)))

or_cases : (a b : Bool) → (a || b) ≡ true → (a ≡ true) ⊎ (b ≡ true)
or_cases true b h = inl refl
or_cases false b h = inr h

end_append : (a b : List ℕ) → has_end a ≡ true → has_end (a ++ b) ≡ true
unfolding has_end
end_append [] b h = absurd (let g : false ≡ true = h in cc)
end_append (x ∷ a) b h =
    elim (or_cases (x == 10 && begins_with (codes "done") a && ends_line a) (has_end a) h) [
      | inl here ↦
          let first = and_parts (x == 10 && begins_with (codes "done") a) (ends_line a) here in
          let two = and_parts (x == 10) (begins_with (codes "done") a) first.0 in
          rw (two.0, begins_append (codes "done") a b two.1, ends_append a b first.1) refl
      | inr later ↦ or_right (x == 10 && begins_with (codes "done") (a ++ b) && ends_line (a ++ b)) (has_end (a ++ b)) (end_append a b later)
    ]

drop_front : (n : ℕ) (a b : List ℕ) → n ≤ length a → drop n (a ++ b) ≡ drop n a ++ b
drop_front zero a b le = refl
drop_front (suc n) [] b le = absurd (omega arith)
drop_front (suc n) (x ∷ a) b le = drop_front n a b (omega (arith, le))

-- so nothing of it is hidden by a zero
shown_by : (t : List ℕ) → is_lost (from_zero t) ≡ false → shown t ≡ t
shown_by t h = rw (h, and_right (is_begun t) false refl) refl

begun_append : (front tail : List ℕ) → is_begun front ≡ false → is_begun (front ++ tail) ≡ false
unfolding is_begun
begun_append [] tail none = absurd (let g : true ≡ false = none in cc)
begun_append (b ∷ []) tail none = absurd (let g : true ≡ false = none in cc)
begun_append (b ∷ d ∷ front) tail none = none

tested : (front tail : List ℕ) → before_zero (front ++ tail) ≡ before_zero front → (list_all is_left (from_zero front) && not (has_end (from_zero front))) ≡ false
    → (list_all is_left (from_zero (front ++ tail)) && not (has_end (from_zero (front ++ tail)))) ≡ false
tested front tail same h =
    let n : ℕ = length (before_zero front) in
    let is : from_zero (front ++ tail) ≡ drop n front ++ tail = ap (λ u. drop (length u) (front ++ tail)) same ∙ drop_front n front tail (before_short front) in
    rw is (by (list_all is_left (drop n front)) refl (has_end (drop n front)) refl h)
  where
    by : (left : Bool) → list_all is_left (drop (length (before_zero front)) front) ≡ left → (ends : Bool) → has_end (drop (length (before_zero front)) front) ≡ ends
        → (list_all is_left (drop (length (before_zero front)) front) && not (has_end (drop (length (before_zero front)) front))) ≡ false
        → (list_all is_left (drop (length (before_zero front)) front ++ tail) && not (has_end (drop (length (before_zero front)) front ++ tail))) ≡ false
    by false e ends f h = rw (list_all-append is_left (drop (length (before_zero front)) front) tail, e) refl
    by true e true f h = rw (end_append (drop (length (before_zero front)) front) tail f) (and_right (list_all is_left (drop (length (before_zero front)) front ++ tail)) false refl)
    by true e false f h = absurd (let g : true && not false ≡ false = subst (λ u. true && not u ≡ false) f (subst (λ u. u && not (has_end (drop (length (before_zero front)) front)) ≡ false) e h) in cc)

before_all : (front tail : List ℕ) → before_zero front ≡ front → list_all is_no_zero tail ≡ true → shown (front ++ tail) ≡ front ++ tail
before_all front tail none plain = by (is_begun (front ++ tail) && is_lost (from_zero (front ++ tail)))
  where
    by : (b : Bool) → (if b then before_zero (front ++ tail) else front ++ tail) ≡ front ++ tail
    by true = before_append front tail none plain
    by false = refl

pub shown_tail : (front tail : List ℕ) (es : List Entry) → IsFinished front es → list_all is_no_zero tail ≡ true → shown (front ++ tail) ≡ front ++ tail
shown_tail front tail es fin plain = by (is_begun front) (is_lost (from_zero front)) refl refl (clean_shown front es fin)
  where
    by : (a b : Bool) → is_begun front ≡ a → is_lost (from_zero front) ≡ b → shown front ≡ front → shown (front ++ tail) ≡ front ++ tail
    by false b a e h = rw (begun_append front tail a) refl
    by true true a e h = before_all front tail (subst (λ b. (if b then before_zero front else front) ≡ front) (ap (λ x. x && is_lost (from_zero front)) a ∙ e) h) plain
    by true false a e h = elim (zero_in front tail) [
      | inl none ↦ before_all front tail none plain
      | inr same ↦ shown_by (front ++ tail) (tested front tail same e)
    ]
