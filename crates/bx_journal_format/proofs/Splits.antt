-- How a text splits into lines.
use Rattle.std.proofs.Common.{◌≡◌, ℕ, Bool, true, false, cond, eqb, List, [], ◌∷◌, ◌++◌, refl, ap, ◌∙◌, inl, inr, ◌⊎◌}
use Rattle.bx_journal_format.specs.read.Plain.{HasNoNewline}
use Rattle.bx_journal_format.specs.Text.{split, Split, with_first_byte, IsPrefix}

abbrev pub AllPlain : List (List ℕ) → Type 0
AllPlain [] = Unit {0}
AllPlain (l ∷ ls) = HasNoNewline l × AllPlain ls

pub plain-append : (a b : List ℕ) → HasNoNewline a → HasNoNewline b → HasNoNewline (a ++ b)
plain-append [] b p q = q
plain-append (x ∷ a) b p q = (p.0, plain-append a b p.1 q)

pub plain_front : (a b : List ℕ) → HasNoNewline (a ++ b) → HasNoNewline a
plain_front [] b p = tt
plain_front (x ∷ a) b p = (p.0, plain_front a b p.1)

pub split-ended : (l rest : List ℕ) → HasNoNewline l → split (l ++ 10 ∷ rest) ≡ record { lines = l ∷ (split rest).lines; rest = (split rest).rest }
unfolding split
split-ended [] rest p = refl
split-ended (b ∷ l) rest p = rw (p.0) (ap (with_first_byte b) (split-ended l rest p.1))

pub split-plain : (l : List ℕ) → HasNoNewline l → split l ≡ record { lines = []; rest = l }
unfolding split
split-plain [] p = refl
split-plain (b ∷ l) p = rw (p.0) (ap (with_first_byte b) (split-plain l p.1))

-- a front of a line with its newline and what follows: a front of the line, or the line and a front of the rest
pub front_cases : (l rest p more : List ℕ) → l ++ 10 ∷ rest ≡ p ++ more → (IsPrefix p l) ⊎ ((q : List ℕ) × (p ≡ l ++ 10 ∷ q) × (rest ≡ q ++ more))
front_cases l rest [] more e = inl (l, refl)
front_cases [] rest (c ∷ p) more e = inr (p, (let h : 10 ≡ c = cc in rw (← h) refl), cc)
front_cases (b ∷ l) rest (c ∷ p) more e =
    let tails : l ++ 10 ∷ rest ≡ p ++ more = cc in
    let heads : b ≡ c = cc in
    elim (front_cases l rest p more tails) [
      | inl h ↦ inl (h.0, cc)
      | inr h ↦ inr (h.0, cc, h.2)
    ]

split_front : (b : ℕ) (lines : List (List ℕ)) (rest : List ℕ) (t : Split) → (with_first_byte b (record { lines = lines; rest = rest })).rest ≡ []
    → with_first_byte b (record { lines = lines ++ t.lines; rest = t.rest }) ≡ record { lines = (with_first_byte b (record { lines = lines; rest = rest })).lines ++ t.lines; rest = t.rest }
split_front b [] rest t e = cc
split_front b (l ∷ lines) rest t e = refl

front_rest_empty : (b : ℕ) (lines : List (List ℕ)) (rest : List ℕ) → (with_first_byte b (record { lines = lines; rest = rest })).rest ≡ [] → rest ≡ []
front_rest_empty b [] rest e = cc
front_rest_empty b (l ∷ lines) rest e = e

-- behind a newline the lines go on
pub split-append : (a b : List ℕ) → (split a).rest ≡ [] → split (a ++ b) ≡ record { lines = (split a).lines ++ (split b).lines; rest = (split b).rest }
unfolding split
split-append [] b e = refl
split-append (x ∷ a) b e = append_cons x a b (eqb x 10) (split-append a b) e
  where
    append_cons : (x : ℕ) (a b : List ℕ) (is : Bool) → ((split a).rest ≡ [] → split (a ++ b) ≡ record { lines = (split a).lines ++ (split b).lines; rest = (split b).rest })
        → (cond is (record { lines = [] ∷ (split a).lines; rest = (split a).rest }) (with_first_byte x (split a))).rest ≡ []
        → cond is (record { lines = [] ∷ (split (a ++ b)).lines; rest = (split (a ++ b)).rest }) (with_first_byte x (split (a ++ b)))
        ≡ record { lines = (cond is (record { lines = [] ∷ (split a).lines; rest = (split a).rest }) (with_first_byte x (split a))).lines ++ (split b).lines; rest = (split b).rest }
    append_cons x a b true ih e = ap (λ (s : Split). record { lines = [] ∷ s.lines; rest = s.rest }) (ih e)
    append_cons x a b false ih e = ap (with_first_byte x) (ih (front_rest_empty x (split a).lines (split a).rest e)) ∙ split_front x (split a).lines (split a).rest (split b) e
