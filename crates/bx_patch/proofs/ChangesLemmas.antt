-- Changes that are made one after another.
use Rattle.std.proofs.Common.{◌≡◌, ◌↔◌, ℕ, ◌+◌, ◌<◌, ◌≤◌, List, ◌∷◌, length, drop, get_or, refl, sym, ap, ◌∙◌, subst}
use Rattle.std.proofs.lemmas.List.{at_drop_more, drop_all, drop_more}
use Rattle.bx_image.specs.declared.change.Change.{Change}
use Rattle.bx_image.specs.Change.{effect, Fits}
use Rattle.bx_patch.specs.preview.Changed.{FitInTurn, effects}

-- one more change
pub effects_more : {A : Type 0} (cs : List (Change A)) (i : ℕ) (c : Change A) (x : List ℕ) → i < length cs → c ≡ get_or cs i c
    → effects (drop i cs) x ≡ effects (drop (i + 1) cs) (effect c x)
unfolding effects
effects_more {A = A} cs i c x h read =
    at_drop_more (λ rest. effects rest x) cs i c h ∙ ap (λ (d : Change A). effects (drop (i + 1) cs) (effect d x)) (sym read)

-- no more changes
pub effects_all : {A : Type 0} (cs : List (Change A)) (i : ℕ) (x : List ℕ) → length cs ≤ i → effects (drop i cs) x ≡ x
unfolding effects
effects_all cs i x h = rw (drop_all i cs h) refl

-- whether one more change fits, and those behind it
pub fits_more : {A : Type 0} (cs : List (Change A)) (i : ℕ) (c : Change A) (x : List ℕ) (limit : ℕ) → i < length cs → c ≡ get_or cs i c
    → FitInTurn (drop i cs) x limit ↔ (Fits c (length x) limit × FitInTurn (drop (i + 1) cs) (effect c x) limit)
unfolding FitInTurn
fits_more {A = A} cs i c x limit h read = subst
    (λ (rest : List (Change A)). FitInTurn rest x limit ↔ (Fits c (length x) limit × FitInTurn (drop (i + 1) cs) (effect c x) limit))
    (sym (drop_more cs i c h))
    (subst (λ (d : Change A). FitInTurn (d ∷ drop (i + 1) cs) x limit ↔ (Fits c (length x) limit × FitInTurn (drop (i + 1) cs) (effect c x) limit)) read
    (λ f. f, λ f. f))

-- no change doesn't fit
pub fits_all : {A : Type 0} (cs : List (Change A)) (i : ℕ) (x : List ℕ) (limit : ℕ) → length cs ≤ i → FitInTurn (drop i cs) x limit
unfolding FitInTurn
fits_all {A = A} cs i x limit h = subst (λ (rest : List (Change A)). FitInTurn rest x limit) (sym (drop_all i cs h)) tt
