-- What lemmas on Turns say.
use Rattle.std.specs.Prelude.{◌≡◌, ◌⊎◌, ◌≤◌, ℕ, suc, List, [], ◌∷◌, length, take}
use Rattle.bx_image.specs.declared.change.Change.{Change}
use Rattle.bx_image.specs.declared.change.TheConstants.{MAX_LEN}
use Rattle.bx_image.specs.declared.record.Saved.{Saved}
use Rattle.bx_image.specs.Change.{effect, restore, IsOf}
use Rattle.bx_journal_format.specs.Kept.{Kept}
use Rattle.bx_journal_format.specs.count.Mark.{HasMarks}
use Rattle.bx_journal_format.specs.Text.{Entry}
use Rattle.bx_journal_format.specs.Finished.{IsFinished}
use Rattle.bx_journal_format.specs.declared.format.version.Version.{Version}
use Rattle.bx_journal_model.specs.Images.{Images, undo_of, redo_of, change_to}
use Rattle.bx_journal_model.specs.Redo.{Finds, LeavesEither}
use Rattle.bx_journal_protocol.proofs.RedoLawsStated.{RestoresKept}
use Rattle.bx_journal_protocol.specs.protocol.Turns.{kept_text, AreAtRest}

-- what an undo keeps of the image x, from which it makes y: an entry can tell it, or it isn't looked at
pub record IsTakenByUndo (y x : List ℕ) (taken : Kept) : Type 0 where
  pub len : taken.len ≡ length x
  pub is : length x ≤ MAX_LEN → IsOf taken x × (restore taken y ≡ x)

-- what one entry's undo starts from
pub record UndoesOne {A : Type 0} (c : Change A) (entry : Saved A) (x : List ℕ) (s : Images) (e : Entry) (taken : Kept) (below : List (List ℕ)) : Type 0 where
  pub stack_is : s.stack ≡ x ∷ below
  pub some : 1 ≤ length below
  pub restores : RestoresKept c entry e.saved
  pub fits : e.saved.len ≤ MAX_LEN
  pub taken_is : IsTakenByUndo (restore e.saved x) x taken

-- what one entry's redo starts from: the newest entry of the redo text, and where it begins
pub record RedoesOne {A : Type 0} (c : Change A) (entry : Saved A) (redo : List ℕ) (s : Images) (e : Entry) (begins : ℕ) (z : List ℕ)
    (u : List (List ℕ)) : Type 0 where
  pub undone_is : s.undone ≡ z ∷ u
  pub some : 1 ≤ length s.stack
  pub restores : RestoresKept c entry e.saved
  pub entries : List Entry
  pub saved_at : ℕ
  pub version : Version
  pub finished : IsFinished redo (e ∷ entries)
  pub marks : HasMarks redo entries version e begins saved_at

abbrev pub UndoFinds : Type 0 → Type 0
UndoFinds A = (c : Change A) (entry : Saved A) (text x redo new x_new redo_new : List ℕ) (s : Images) (e : Entry) (taken : Kept) (below : List (List ℕ))
    → AreAtRest text x redo s → UndoesOne c entry x s e taken below
    → LeavesEither new x_new redo_new (record { stack = x ∷ below; image = x; redo = redo })
    (record { stack = below; image = restore e.saved x; redo = kept_text redo taken (suc (length s.undone)) e.saved.len })
    → Finds new x_new redo_new s ⊎ Finds new x_new redo_new (undo_of 1 s)

abbrev pub RedoStops : Type 0 → Type 0
RedoStops A = (c : Change A) (entry : Saved A) (text x redo new x_new redo_new : List ℕ) (s : Images) (e : Entry) (begins : ℕ) (z : List ℕ) (u : List (List ℕ))
    → AreAtRest text x redo s → RedoesOne c entry redo s e begins z u
    → LeavesEither new x_new redo_new (record { stack = s.stack; image = x; redo = redo })
    (record { stack = effect c x ∷ s.stack; image = effect c x; redo = take begins redo })
    → Finds new x_new redo_new s ⊎ Finds new x_new redo_new (redo_of 1 s)

-- a change, whose step cuts the redo text to nothing
abbrev pub ChangeStops : Type 0
ChangeStops = (text x redo new x_new redo_new y : List ℕ) (s : Images) → AreAtRest text x redo s → length s.stack ≤ 65535
    → LeavesEither new x_new redo_new (record { stack = s.stack; image = x; redo = redo }) (record { stack = y ∷ s.stack; image = y; redo = [] })
    → Finds new x_new redo_new s ⊎ Finds new x_new redo_new (change_to y s)

-- three devices at rest are found as they are
abbrev pub RestIsFound : Type 0
RestIsFound = (text x redo : List ℕ) (s : Images) → AreAtRest text x redo s → Finds text x redo s
