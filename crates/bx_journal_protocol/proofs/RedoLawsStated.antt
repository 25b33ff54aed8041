-- What lemmas on RedoLaws say.
use Rattle.std.specs.Prelude.{◌≡◌, ◌≤◌, ℕ, List, ◌++◌, length, ◌⊎◌, suc, ◌∷◌, take}
use Rattle.bx_image.specs.declared.change.Change.{Change}
use Rattle.bx_image.specs.declared.change.TheConstants.{MAX_LEN}
use Rattle.bx_image.specs.Change.{saved, restore, IsOf, AllWithin, Restores}
use Rattle.bx_journal_format.specs.Entry.{entry_text}
use Rattle.bx_journal_format.specs.Kept.{kept_of, Kept}
use Rattle.bx_journal_model.specs.Redo.{IsRedoOf, Finds, RecoversOpen, Side, LeavesEither}
use Rattle.bx_journal_model.specs.Stack.{Recovers}
use Rattle.bx_image.specs.declared.record.Saved.{Saved}
use Rattle.bx_journal_model.specs.Machine.{changes_of}
use Rattle.bx_journal_format.specs.count.Mark.{HasMarks}
use Rattle.bx_journal_model.specs.Phase.{IsOpen}
use Rattle.bx_journal_model.specs.Step.{EndsEntry, TakesBack}
use Rattle.bx_journal_format.specs.Text.{Entry}
use Rattle.bx_journal_format.specs.Finished.{IsFinished}
use Rattle.bx_journal_format.specs.declared.format.version.Version.{Version}
use Rattle.bx_journal_store.specs.Store.{IsCutInPart, IsPartlyAppended}

-- an undo appends what it overwrites
abbrev pub PushedIsRedo : Type 0
PushedIsRedo = (text new x y : List ℕ) (changes : ℕ) (undone : List (List ℕ)) (s : Kept) → IsRedoOf text x (suc changes) undone
    → IsOf s x → length x ≤ MAX_LEN → length y ≤ MAX_LEN → restore s y ≡ x → new ≡ text ++ entry_text (suc (length undone)) s (length y)
    → IsRedoOf new y changes (x ∷ undone)

-- a redo cuts the last entry off, where it begins
abbrev pub PoppedIsRedo : Type 0
PoppedIsRedo = (text new x y z : List ℕ) (changes : ℕ) (undone : List (List ℕ)) (v : Version) (e : Entry) (entries : List Entry) (begins saved : ℕ)
    → IsRedoOf text x changes (z ∷ undone) → IsFinished text (e ∷ entries) → HasMarks text entries v e begins saved → new ≡ take begins text
    → y ≡ restore e.saved x
    → (y ≡ z) × IsRedoOf new y (suc changes) undone

-- an entry that is open isn't finished
abbrev pub OpenIsNotClean : Type 0
OpenIsNotClean = (v : Version) (s : Kept) (text x : List ℕ) (stack : List (List ℕ)) → IsOpen v s text x stack → RecoversOpen text x stack

-- a failed end line leaves the entry open, or the image on the stack
abbrev pub EndIsSharp : Type 0
EndIsSharp = (text new x : List ℕ) (stack : List (List ℕ)) (s : Kept) (line : List ℕ) → EndsEntry text x stack s line → IsPartlyAppended line text new
    → RecoversOpen new x stack ⊎ Recovers new x (x ∷ stack)

-- a failed cut of the end line leaves the entry finished, or open
abbrev pub CutIsSharp : Type 0
CutIsSharp = (text new x : List ℕ) (below : List (List ℕ)) (v : Version) (e : Entry) (begins saved : ℕ) → TakesBack text x below v e begins saved
    → IsCutInPart saved text new
    → Recovers new x (x ∷ below) ⊎ RecoversOpen new x below

-- what a stopped step leaves is found as the images before it, or as those behind it
abbrev pub StepIsFound : Type 0
StepIsFound = (text x redo : List ℕ) (old new : Side) (u v : List (List ℕ)) → LeavesEither text x redo old new
    → IsRedoOf old.redo old.image (changes_of old.stack) u → IsRedoOf new.redo new.image (changes_of new.stack) v
    → Finds text x redo (record { stack = old.stack; undone = u }) ⊎ Finds text x redo (record { stack = new.stack; undone = v })

-- the change puts back what an entry saved, whatever memory holds it
pub record RestoresKept {A : Type 0} (c : Change A) (entry : Saved A) (record_ : Kept) : Type 0 where
  pub restores : Restores c entry
  pub within : AllWithin entry.len entry.runs
  pub kept : kept_of entry ≡ record_

-- what an undo saves is what the change that restores its entry overwrites
abbrev pub PushedByUndo : Type 0 → Type 0
PushedByUndo A = (c : Change A) (text new x y : List ℕ) (changes : ℕ) (undone : List (List ℕ)) (e : Entry) (entry : Saved A)
    → IsRedoOf text x (suc changes) undone
    → RestoresKept c entry e.saved → IsOf (saved c x) x → length x ≤ MAX_LEN → e.saved.len ≤ MAX_LEN → y ≡ restore e.saved x
    → new ≡ text ++ entry_text (suc (length undone)) (kept_of (saved c x)) e.saved.len
    → IsRedoOf new y changes (x ∷ undone)
