-- What forgetting leaves, as opening finds it.
use Rattle.std.proofs.Common.{◌≡◌, ◌⊎◌, inl, inr, ℕ, List, [], ◌∷◌, refl, sym, ◌∙◌, subst, arith}
use Rattle.bx_image.specs.Power.{Only}
use Rattle.bx_journal_protocol.proofs.LawProofs.{empty_is_sound}
use Rattle.bx_journal_protocol.proofs.RedoText.{empty_is_redo}
use Rattle.bx_journal_protocol.proofs.StepSurvivors.{found_at_rest, found_of}
use Rattle.bx_journal_model.specs.Power.{Found}
use Rattle.bx_journal_model.specs.Images.{Images}
use Rattle.bx_journal_model.specs.Machine.{changes_of}
use Rattle.bx_journal_model.specs.Phase.{IsAtRest}
use Rattle.bx_journal.specs.Forgotten.{IsWhole, OfSome, only}
use Rattle.bx_journal.specs.Losses.{emptied}

-- an empty journal and the image
pub alone_at_rest : (new y x : List ℕ) → new ≡ [] → y ≡ x → IsAtRest new y (x ∷ [])
alone_at_rest new y x none same = subst (λ t. IsAtRest t y (x ∷ [])) (sym none) (subst (λ z. IsAtRest [] z (x ∷ [])) (sym same) (empty_is_sound x))

-- what was left of a text that was looked at before
pub left_first : {R : Type 0} {new now old : List ℕ} → now ≡ old → (new ≡ now) ⊎ R → (new ≡ old) ⊎ R
left_first same (inl is) = inl (is ∙ same)
left_first same (inr r) = inr r

-- and what is found of it
pub found_first : {now old : List ℕ} {survives redo_survives : List ℕ → Type 0} (new redo : List ℕ) → now ≡ old → Only now survives ⊎ Only [] redo_survives → survives new → redo_survives redo
    → (new ≡ old) ⊎ (redo ≡ [])
found_first new redo same (inl only) there redo_there = inl (only new there ∙ same)
found_first new redo same (inr none) there redo_there = inr (none redo redo_there)

-- Of three devices, whatever opening found in them.
-- with an empty redo text nothing is undone
found_without : (text x redo : List ℕ) (s : Images) → Found text x redo s → Found text x [] (emptied s)
found_without text x redo s found = record { recovers = found.recovers; undone = λ clean. let few = (found.undone clean).few in empty_is_redo x (changes_of s.stack) (omega (arith, few)) }

-- with both empty the image is alone
found_only : (x : List ℕ) → Found [] x [] (only x)
found_only x = found_of [] x [] (only x) (found_at_rest [] x [] [] x [] (only x) (empty_is_sound x) (empty_is_redo x 0 (omega arith)) refl refl refl)

found_same : (text x redo new y new_redo : List ℕ) (s : Images) → y ≡ x → new ≡ text → new_redo ≡ redo → Found text x redo s → Found new y new_redo s
found_same text x redo new y new_redo s same is redo_is found =
    subst (λ t. Found t y new_redo s) (sym is) (subst (λ z. Found text z new_redo s) (sym same) (subst (λ r. Found text x r s) (sym redo_is) found))

-- what opening finds where the redo text is emptied first and none is cut in part
pub found_in_part : (text x redo new y new_redo : List ℕ) (s : Images) → Found text x redo s → (new ≡ text) ⊎ (new_redo ≡ []) → y ≡ x → IsWhole text new → IsWhole redo new_redo
    → OfSome s (only x) (Found new y new_redo)
found_in_part text x redo new y new_redo s found order same (inl is) (inl redo_is) = inl (found_same text x redo new y new_redo s same is redo_is found)
found_in_part text x redo new y new_redo s found order same (inl is) (inr none) =
    inr (inl (found_same text x [] new y new_redo (emptied s) same is none (found_without text x redo s found)))
found_in_part text x redo new y new_redo s found order same (inr empty) (inr none) = inr (inr (found_same [] x [] new y new_redo (only x) same empty none (found_only x)))
found_in_part text x redo new y new_redo s found (inl is) same (inr empty) (inl redo_is) = inl (found_same text x redo new y new_redo s same is redo_is found)
found_in_part text x redo new y new_redo s found (inr none) same (inr empty) (inl redo_is) =
    inr (inr (found_same [] x [] new y new_redo (only x) same empty none (found_only x)))
