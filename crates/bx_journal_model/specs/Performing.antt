-- What a change, an undo and a redo answer and leave.
use Rattle.std.specs.Prelude.{◌≡◌, ◌≤◌, ◌++◌, ℕ, List, length, drop, Result, Ok, IfOk, IfErr, OnOk}
use Rattle.bx_image.specs.declared.change.Change.{Change}
use Rattle.bx_image.specs.Change.{effect, saved}
use Rattle.bx_image.specs.declared.device.Device.{Ghosts as DeviceViews}
use Rattle.bx_journal_store.specs.declared.store.TextStore.{Ghosts as StoreViews}
use Rattle.bx_journal_format.specs.Entry.{entry_text}
use Rattle.bx_journal_format.specs.Finished.{IsFinished}
use Rattle.bx_journal_format.specs.Kept.{kept_of}
use Rattle.bx_journal_format.specs.Text.{Entry}
use Rattle.bx_journal_model.specs.declared.fault.SessionFault.{SessionFault}
use Rattle.bx_journal_model.specs.Calls.{AfterFault}
use Rattle.bx_journal_model.specs.Images.{Images, change_to, redo_of, undo_of}
use Rattle.bx_journal_model.specs.Machine.{RedoStep, changed, top}
use Rattle.bx_journal_model.specs.Phase.{RecoversEither}
use Rattle.bx_journal_model.specs.Session.{FindsEither, HasUndone, IsReady, IsSame, SessionFinds}
use Rattle.bx_journal_model.specs.SessionView.{SessionView}
use Rattle.bx_journal_model.specs.OnTop.{OnTop}
use Rattle.bx_journal_model.specs.Stack.{Recovers}
use Rattle.bx_journal_model.specs.Standing.{IsStanding}
use Rattle.bx_journal_model.specs.Taken.{taken_by, AreKept}

-- Of sessions whose device has an image, given by `image`, and whose stores have a text, given by `text`.
module _ {D T : Type 0} (image : D → List ℕ) (text : T → List ℕ) where
  -- where it is accepted, the machine makes its step from the stack for which the session stands
  abbrev pub Steps : {X : Type 0} → SessionView D T → SessionView D T → (List (List ℕ) → X → Result ℕ SessionFault → List (List ℕ) → Type 0) → X
      → (X → List (List ℕ) → List (List ℕ)) → Result ℕ SessionFault → Type 0
  Steps old new step x next result = (stack : List (List ℕ)) → IsStanding image text old stack →
      IfOk result (λ n. step stack x (Ok n) (next x stack) × IsStanding image text new (next x stack))

  -- a session that is ready with a stack is ready with the next
  abbrev pub StaysReady : {V E : Type 0} → SessionView D T → SessionView D T → (List (List ℕ) → List (List ℕ)) → Result V E → Type 0
  StaysReady old new next result = (stack : List (List ℕ)) → IsReady image text old stack → OnOk result (IsReady image text new (next stack))

  -- the entry of the change, of this number, stands behind the journal
  abbrev pub AppendsEntry : {A : Type 0} → Change A → SessionView D T → SessionView D T → ℕ → Type 0
  AppendsEntry c old new n = text new.journal ≡ text old.journal ++ entry_text n (kept_of (saved c (image old.image))) (length (effect c (image old.image)))

  -- an interruption of a change leaves the old stack or the new one, and another fault leaves all as it was
  abbrev pub StopsPerform : {A V : Type 0} → Change A → SessionView D T → SessionView D T → Result V SessionFault → Type 0
  StopsPerform c old new result = (stack : List (List ℕ)) → IsReady image text old stack →
      IfErr result (λ e. AfterFault e (RecoversEither (text new.journal) (image new.image) stack (changed c stack)) (IsSame image text old new))

  -- an interruption of an undo leaves the stack without some of the images, and another fault leaves all as it was
  abbrev pub StopsUndo : {V : Type 0} → ℕ → SessionView D T → SessionView D T → Result V SessionFault → Type 0
  StopsUndo k old new result = (stack : List (List ℕ)) → IsReady image text old stack →
      IfErr result (λ e. AfterFault e ((j : ℕ) × (j ≤ k) × Recovers (text new.journal) (image new.image) (drop j stack)) (IsSame image text old new))

  -- whatever the redo text gave, a session that stood for a stack stands for it with j images on top
  abbrev pub StandsOnTop : {V E : Type 0} → ℕ → SessionView D T → SessionView D T → Result V E → Type 0
  StandsOnTop j old new result = (stack : List (List ℕ)) → IsStanding image text old stack → OnOk result (OnTop j stack (IsStanding image text new))

  -- and one that was ready with it is so with j images on top
  abbrev pub StaysOnTop : {V E : Type 0} → ℕ → SessionView D T → SessionView D T → Result V E → Type 0
  StaysOnTop j old new result = (stack : List (List ℕ)) → IsReady image text old stack → OnOk result (OnTop j stack (IsReady image text new))

  -- an interruption of a redo leaves the stack with some images on top, and another fault leaves all as it was
  abbrev pub StopsRedo : {V : Type 0} → ℕ → SessionView D T → SessionView D T → Result V SessionFault → Type 0
  StopsRedo j old new result = (stack : List (List ℕ)) → IsReady image text old stack →
      IfErr result (λ e. AfterFault e ((i : ℕ) × (i ≤ j) × OnTop i stack (Recovers (text new.journal) (image new.image))) (IsSame image text old new))

  -- what opening finds behind an interruption, where the session was ready with these images
  abbrev pub FindsBehind : {V : Type 0} → SessionView D T → (Images → Type 0) → Result V SessionFault → Type 0
  FindsBehind old found result = (s : Images) → IsReady image text old s.stack → HasUndone image text old s.undone →
      IfErr result (λ e. AfterFault e (found s) (Unit {0}))

  -- behind an interruption of a change opening finds the old images or the new ones
  abbrev pub FindsOne : {A V : Type 0} → Change A → SessionView D T → SessionView D T → Result V SessionFault → Type 0
  FindsOne c old new = FindsBehind old (λ s. FindsEither image text new s (change_to (effect c (top s.stack)) s))

  -- behind an interruption of k steps opening finds the images behind some of them
  abbrev pub FindsSome : {V : Type 0} → SessionView D T → SessionView D T → (ℕ → Images → Images) → ℕ → Result V SessionFault → Type 0
  FindsSome old new step k = FindsBehind old (λ s. (i : ℕ) × (i ≤ k) × SessionFinds image text new (step i s))

  -- the images that an undo takes back are undone, above those that were
  abbrev pub UndoesImages : {V E : Type 0} → ℕ → SessionView D T → SessionView D T → Result V E → Type 0
  UndoesImages k old new result = (s : Images) → IsStanding image text old s.stack → HasUndone image text old s.undone →
      OnOk result (HasUndone image text new (undo_of k s).undone)

  -- where a redo is accepted, the machine makes its step from the images for which the session stands
  abbrev pub RedoesImages : ℕ → SessionView D T → SessionView D T → Result ℕ SessionFault → Type 0
  RedoesImages j old new result = (s : Images) → IsStanding image text old s.stack → HasUndone image text old s.undone →
      IfOk result (λ n. RedoStep s j (Ok n) (redo_of j s) × IsStanding image text new (redo_of j s).stack × HasUndone image text new (redo_of j s).undone)

  -- a session that is ready with images is ready with those behind the redo
  abbrev pub StaysRedone : {V E : Type 0} → ℕ → SessionView D T → SessionView D T → Result V E → Type 0
  StaysRedone j old new result = (s : Images) → IsReady image text old s.stack → HasUndone image text old s.undone →
      OnOk result (IsReady image text new (redo_of j s).stack × HasUndone image text new (redo_of j s).undone)

  -- behind an undo of k the redo text keeps what was taken for the newest k entries of the journal
  abbrev pub KeepsTaken : {V E : Type 0} → ℕ → SessionView D T → SessionView D T → Result V E → Type 0
  KeepsTaken k old new result = (entries : List Entry) → IsFinished (text old.journal) entries →
      OnOk result (AreKept k entries (image old.image) old.undone (text old.redo) (text new.redo))

  -- behind a redo of j the journal has what was taken for the newest j entries of the redo text
  abbrev pub GrowsByTaken : {V E : Type 0} → ℕ → SessionView D T → SessionView D T → Result V E → Type 0
  GrowsByTaken j old new result = (entries : List Entry) → IsFinished (text old.redo) entries →
      OnOk result (text new.journal ≡ taken_by j entries (image old.image) old.count (text old.journal))

-- Whatever the redo text gives, a redo of j keeps the old stack: it stands with j images on top, behind an interruption with some, and another fault
-- leaves all as it was
pub record KeepsOldStack {D T : Type 0} (d : DeviceViews D) (t : StoreViews T) (j : ℕ) (old new : SessionView D T) (result : Result ℕ SessionFault) : Type 0 where
  pub stands : d.faithful old.image → t.faithful old.journal → StandsOnTop d.image t.text j old new result
  pub ready : d.faithful old.image → t.faithful old.journal → StaysOnTop d.image t.text j old new result
  pub fault : d.faithful old.image → t.faithful old.journal → StopsRedo d.image t.text j old new result
