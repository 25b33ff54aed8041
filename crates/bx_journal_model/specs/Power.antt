-- What opening (recovery) finds after a loss of power.
use Rattle.std.specs.Prelude.{◌⊎◌, ◌≤◌, ℕ, List, [], Result, MatchResult}
use Rattle.bx_image.specs.declared.change.Change.{Change}
use Rattle.bx_image.specs.Change.{effect}
use Rattle.bx_image.specs.Power.{NoMore}
use Rattle.bx_image.specs.declared.device.Device.{Ghosts as DeviceViews}
use Rattle.bx_journal_store.specs.declared.store.TextStore.{Ghosts as StoreViews}
use Rattle.bx_journal_model.specs.declared.devices.Devices.{Devices}
use Rattle.bx_journal_format.specs.Shown.{shown}
use Rattle.bx_journal_model.specs.declared.fault.SessionFault.{SessionFault}
use Rattle.bx_journal_model.specs.Calls.{AfterFault}
use Rattle.bx_journal_model.specs.Images.{Images, change_to}
use Rattle.bx_journal_model.specs.Machine.{changes_of, top}
use Rattle.bx_journal_model.specs.Redo.{IsClean, IsRedoOf}
use Rattle.bx_journal_model.specs.Session.{HasUndone, IsReady}
use Rattle.bx_journal_model.specs.SessionView.{SessionView, devices_of}
use Rattle.bx_journal_model.specs.Stack.{Recovers}

-- Contents that are all on the disk, and what opening finds of them: the stack, and where the journal is finished entries alone the undone images
pub record Found (text x redo : List ℕ) (s : Images) : Type 0 where
  pub recovers : Recovers (shown text) x s.stack
  pub undone : IsClean text → IsRedoOf redo x (changes_of s.stack) s.undone

-- whatever is found of the three devices was found before
pub record FoundBefore {D T : Type 0} (d : DeviceViews D) (t : StoreViews T) (old new : Devices D T) : Type 0 where
  pub image_before : d.faithful old.image → NoMore (d.survives old.image) (d.survives new.image)
  pub journal_before : t.faithful old.journal → NoMore (t.survives old.journal) (t.survives new.journal)
  pub redo_before : t.faithful old.redo → NoMore (t.survives old.redo) (t.survives new.redo)

-- whatever is found of the session's three devices was found before
abbrev pub NothingNew : {D T : Type 0} → DeviceViews D → StoreViews T → SessionView D T → SessionView D T → Type 0
NothingNew d t old new = FoundBefore d t (devices_of old) (devices_of new)

-- Of sessions whose device has an image and may be found with others, and whose stores have a text and may be found with others.
module _ {D T : Type 0} (image : D → List ℕ) (survives : D → List ℕ → Type 0) (text : T → List ℕ) (text_survives : T → List ℕ → Type 0) where
  -- whatever is found on the three devices
  abbrev pub Survive : SessionView D T → (List ℕ → List ℕ → List ℕ → Type 0) → Type 0
  Survive s found = (x new redo : List ℕ) → survives s.image x → text_survives s.journal new → text_survives s.redo redo → found new x redo

  -- of a change: the new images where it was accepted, and behind an interruption the old or the new ones
  abbrev pub ChangeSurvives : {A : Type 0} → Change A → SessionView D T → SessionView D T → Result ℕ SessionFault → Type 0
  ChangeSurvives c old new result = (s : Images) → IsReady image text old s.stack → HasUndone image text old s.undone →
      MatchResult result
      (λ n. Survive new (λ text x redo. Found text x redo (change_to (effect c (top s.stack)) s)))
      (λ e. AfterFault e (Survive new (λ text x redo. Found text x redo s ⊎ Found text x redo (change_to (effect c (top s.stack)) s))) (Unit {0}))

  -- of k steps back or forth: the images behind all of them, and behind an interruption those behind some
  abbrev pub StepsSurvive : (ℕ → Images → Images) → ℕ → SessionView D T → SessionView D T → Result ℕ SessionFault → Type 0
  StepsSurvive step k old new result = (s : Images) → IsReady image text old s.stack → HasUndone image text old s.undone →
      MatchResult result
      (λ n. Survive new (λ text x redo. Found text x redo (step k s)))
      (λ e. AfterFault e (Survive new (λ text x redo. (i : ℕ) × (i ≤ k) × Found text x redo (step i s))) (Unit {0}))

  -- whatever is found, opening finds the stack, and that nothing is undone
  abbrev pub EmptiedSurvives : Images → D → T → T → Type 0
  EmptiedSurvives s d t u = (x new redo : List ℕ) → survives d x → text_survives t new → text_survives u redo → Found new x redo (record { stack = s.stack; undone = [] })

-- of what opening finds unfinished: that is dropped or taken back, or behind an interruption still there
abbrev pub RecoverySurvives : {D T V E : Type 0} → DeviceViews D → StoreViews T → Result V E → (V → Type 0) → (E → SessionFault) → Devices D T → Devices D T → Type 0
RecoverySurvives d t result unfinished fault old new =
    let emptied = λ (s : Images). EmptiedSurvives d.image d.survives t.text t.survives s new.image new.journal new.redo in
    (s : Images) → Found (t.text old.journal) (d.image old.image) (t.text old.redo) s →
    MatchResult result (λ v. unfinished v → emptied s) (λ e. AfterFault (fault e) (emptied s) (Unit {0}))
