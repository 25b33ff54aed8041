-- One entry more is undone or redone.
use Rattle.std.proofs.Common.{◌≡◌, ℕ, suc, ◌≤◌, Bool, true, false, List, [], ◌∷◌, ◌++◌, length, take, refl, ap, sym, ◌∙◌, subst, inl, inr, arith}
use Rattle.std.specs.Prelude.{nat_le, if◌then◌else◌}
use Rattle.std.proofs.lemmas.Bool.Decides.{nat_tests}
use Rattle.bx_image.specs.declared.change.Change.{Change}
use Rattle.bx_image.specs.declared.change.TheConstants.{MAX_LEN}
use Rattle.bx_image.specs.declared.record.Saved.{Saved}
use Rattle.bx_image.specs.Change.{effect, restore}
use Rattle.bx_image.proofs.Records.{effect-restore, length-restore}
use Rattle.bx_journal_format.specs.Kept.{Kept}
use Rattle.bx_journal_format.specs.Entry.{entry_text}
use Rattle.bx_journal_model.specs.Machine.{changes_of}
use Rattle.bx_journal_format.specs.Text.{Entry}
use Rattle.bx_journal_format.proofs.KeptLemmas.{same_restore}
use Rattle.bx_journal_model.proofs.Phases.{rest_recovers}
use Rattle.bx_journal_model.specs.Images.{Images, with_undone, undo_of, redo_of}
use Rattle.bx_journal_model.specs.Redo.{IsRedoOf, Finds}
use Rattle.bx_journal_protocol.proofs.RedoLawsStated.{RestoresKept}
use Rattle.bx_journal_protocol.specs.protocol.Turns.{kept_text}
use Rattle.bx_journal_protocol.proofs.TurnsStated.{IsTakenByUndo, UndoesOne, RedoesOne, UndoFinds, RedoStops, ChangeStops, RestIsFound}
use Rattle.bx_journal_protocol.proofs.RedoText.{empty_is_redo, popped_is_redo, pushed_is_redo}
use Rattle.bx_journal_protocol.proofs.StepFound.{step_is_found}

-- the redo text behind an undone entry, whatever the image's length
kept_is_redo : {A : Type 0} (c : Change A) (entry : Saved A) (redo new x y : List ℕ) (n : ℕ) (u : List (List ℕ)) (e : Entry) (taken : Kept) → IsRedoOf redo x (suc n) u
    → RestoresKept c entry e.saved → e.saved.len ≤ MAX_LEN → IsTakenByUndo (restore e.saved x) x taken → y ≡ restore e.saved x → new ≡ kept_text redo taken (suc (length u)) e.saved.len → IsRedoOf new y n (with_undone x u)
kept_is_redo c entry redo new x y n u e taken r restores fits t restored is =
    by_test (nat_le (length x) MAX_LEN) refl (is ∙ ap (λ b. if b then redo ++ entry_text (suc (length u)) taken e.saved.len else []) (ap (λ k. nat_le k MAX_LEN) t.len))
  where
    le_of : (k : ℕ) → nat_le k MAX_LEN ≡ true → k ≤ MAX_LEN
    le_of k is = grind (arith, nat_tests)

    by_test : (b : Bool) → nat_le (length x) MAX_LEN ≡ b → new ≡ (if b then redo ++ entry_text (suc (length u)) taken e.saved.len else []) → IsRedoOf new y n (if b then x ∷ u else [])
    by_test true is written =
        let long : length x ≤ MAX_LEN = le_of (length x) is in
        let both = t.is long in
        let len : length y ≡ e.saved.len = ap length restored ∙ length-restore e.saved x in
        let back : restore taken y ≡ x = ap (restore taken) restored ∙ both.1 in
        pushed_is_redo redo new x y n u taken r both.0 long (omega (arith, len, fits)) back (written ∙ ap (λ m. redo ++ entry_text (suc (length u)) taken m) (sym len))
    by_test false is written = subst (λ w. IsRedoOf w y n []) (sym written) (empty_is_redo y n (omega (arith, r.few)))

-- the stack with one image less
changes_below : (stack below : List (List ℕ)) (x : List ℕ) → stack ≡ x ∷ below → 1 ≤ length below → changes_of stack ≡ suc (changes_of below)
changes_below stack below x is some = let e : length stack ≡ suc (length below) = ap length is in omega (arith, e, some)

pub undo_one : (s : Images) (x : List ℕ) (below : List (List ℕ)) → s.stack ≡ x ∷ below → undo_of 1 s ≡ record { stack = below; undone = with_undone x s.undone }
undo_one s x below is = ap (λ t. undo_of 1 (record { stack = t; undone = s.undone })) is

-- the redo text behind the turn
pub redo_part : {A : Type 0} (c : Change A) (entry : Saved A) (x redo y redo_new : List ℕ) (s : Images) (e : Entry) (taken : Kept) (below : List (List ℕ))
    → IsRedoOf redo x (changes_of s.stack) s.undone → UndoesOne c entry x s e taken below → y ≡ restore e.saved x → redo_new ≡ kept_text redo taken (suc (length s.undone)) e.saved.len
    → IsRedoOf redo_new y (changes_of below) (with_undone x s.undone)
redo_part c entry x redo y redo_new s e taken below undone one restored is =
    let r : IsRedoOf redo x (suc (changes_of below)) s.undone = subst (λ n. IsRedoOf redo x n s.undone) (changes_below s.stack below x one.stack_is one.some) undone in
    kept_is_redo c entry redo redo_new x y (changes_of below) s.undone e taken r one.restores one.fits one.taken_is restored is

pub undo_stops : {A : Type 0} → UndoFinds A
undo_stops c entry text x redo new x_new redo_new s e taken below rest one leaves =
    let kept : List ℕ = kept_text redo taken (suc (length s.undone)) e.saved.len in
    let old : IsRedoOf redo x (changes_of (x ∷ below)) s.undone = subst (λ t. IsRedoOf redo x (changes_of t) s.undone) one.stack_is rest.undone in
    let more = redo_part c entry x redo (restore e.saved x) kept s e taken below rest.undone one refl refl in
    elim (step_is_found new x_new redo_new (record { stack = x ∷ below; image = x; redo = redo }) (record { stack = below; image = restore e.saved x; redo = kept }) s.undone (with_undone x s.undone) leaves old more) [
      | inl f ↦ inl (subst (λ t. Finds new x_new redo_new (record { stack = t; undone = s.undone })) (sym one.stack_is) f)
      | inr f ↦ inr (subst (Finds new x_new redo_new) (sym (undo_one s x below one.stack_is)) f)
    ]

pub redo_one : (s : Images) (z : List ℕ) (u : List (List ℕ)) → s.undone ≡ z ∷ u → redo_of 1 s ≡ record { stack = z ∷ s.stack; undone = u }
redo_one s z u is = ap (λ t. redo_of 1 (record { stack = s.stack; undone = t })) is

changes_above : (stack : List (List ℕ)) (z : List ℕ) → 1 ≤ length stack → changes_of (z ∷ stack) ≡ suc (changes_of stack)
changes_above stack z some = omega (arith, some)

pub redo_back : {A : Type 0} (c : Change A) (entry : Saved A) (x redo y redo_new : List ℕ) (s : Images) (e : Entry) (begins : ℕ) (z : List ℕ) (u : List (List ℕ))
    → IsRedoOf redo x (changes_of s.stack) s.undone → RedoesOne c entry redo s e begins z u → y ≡ effect c x → redo_new ≡ take begins redo → (y ≡ z) × IsRedoOf redo_new y (changes_of (z ∷ s.stack)) u
redo_back c entry x redo y redo_new s e begins z u undone one changed is =
    let restored : y ≡ restore e.saved x = changed ∙ effect-restore c entry x one.restores.restores one.restores.within ∙ sym (same_restore entry x) ∙ ap (λ (k : Kept). restore k x) one.restores.kept in
    let r : IsRedoOf redo x (changes_of s.stack) (z ∷ u) = subst (IsRedoOf redo x (changes_of s.stack)) one.undone_is undone in
    let both = popped_is_redo redo redo_new x y z (changes_of s.stack) u one.version e one.entries begins one.saved_at r one.finished one.marks is restored in
    (both.0, subst (λ n. IsRedoOf redo_new y n u) (sym (changes_above s.stack z one.some)) both.1)

pub redo_stops : {A : Type 0} → RedoStops A
redo_stops c entry text x redo new x_new redo_new s e begins z u rest one leaves =
    let both = redo_back c entry x redo (effect c x) (take begins redo) s e begins z u rest.undone one refl refl in
    let more : IsRedoOf (take begins redo) (effect c x) (changes_of (effect c x ∷ s.stack)) u = both.1 in
    elim (step_is_found new x_new redo_new (record { stack = s.stack; image = x; redo = redo }) (record { stack = effect c x ∷ s.stack; image = effect c x; redo = take begins redo }) s.undone u leaves rest.undone more) [
      | inl f ↦ inl f
      | inr f ↦ inr (subst (Finds new x_new redo_new) (ap (λ t. record { stack = t ∷ s.stack; undone = u }) both.0 ∙ sym (redo_one s z u one.undone_is)) f)
    ]

pub change_stops : ChangeStops
change_stops text x redo new x_new redo_new y s rest few leaves =
    step_is_found new x_new redo_new (record { stack = s.stack; image = x; redo = redo }) (record { stack = y ∷ s.stack; image = y; redo = [] }) s.undone [] leaves rest.undone
    (empty_is_redo y (changes_of (y ∷ s.stack)) (omega (arith, few)))

pub rest_is_found : RestIsFound
rest_is_found text x redo s rest = record { recovers = rest_recovers text x s.stack rest.rest; undone = λ clean. rest.undone }
