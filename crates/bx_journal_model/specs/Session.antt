-- What a session over a device and a store is.
use Rattle.std.specs.Prelude.{◌≡◌, ◌⊎◌, ◌↔◌, ℕ, suc, false, true, List, length, Result, IfErr, IsErrOf, MatchResult}
use Rattle.bx_image.specs.declared.device.Device.{Ghosts as DeviceViews}
use Rattle.bx_journal_store.specs.declared.store.TextStore.{Ghosts as StoreViews}
use Rattle.bx_journal_model.specs.SessionView.{SessionView}
use Rattle.bx_journal_model.specs.Phase.{IsAtRest}
use Rattle.bx_journal_model.specs.Images.{Images}
use Rattle.bx_journal_model.specs.Calls.{AfterFault}
use Rattle.bx_journal_model.specs.Opening.{ThreeCounts}
use Rattle.bx_journal_model.specs.Redo.{Finds, IsRedoOf}
use Rattle.bx_journal_model.specs.declared.fault.SessionFault.{SessionFault}
use Rattle.bx_journal_model.specs.declared.fault.SessionFault.TheVariants.{Broken}

-- the session may go on, and its pair stands for the stack
pub record IsReady {D T : Type 0} (image : D → List ℕ) (text : T → List ℕ) (s : SessionView D T) (stack : List (List ℕ)) : Type 0 where
  pub rest : IsAtRest (text s.journal) (image s.image) stack
  pub count : length stack ≡ suc s.count
  pub whole : s.is_broken ≡ false

-- image, text and count are as they were
pub record IsSame {D T : Type 0} (image : D → List ℕ) (text : T → List ℕ) (old new : SessionView D T) : Type 0 where
  pub image_same : image new.image ≡ image old.image
  pub text_same : text new.journal ≡ text old.journal
  pub count : new.count ≡ old.count
  pub broken : new.is_broken ≡ old.is_broken

-- the session's redo text and image stand for the undone images
pub record HasUndone {D T : Type 0} (image : D → List ℕ) (text : T → List ℕ) (s : SessionView D T) (undone : List (List ℕ)) : Type 0 where
  pub redo : IsRedoOf (text s.redo) (image s.image) s.count undone
  pub counted : s.undone ≡ length undone

-- redo text and count of undone changes are as they were
pub record IsRedoSame {D T : Type 0} (text : T → List ℕ) (old new : SessionView D T) : Type 0 where
  pub text_same : text new.redo ≡ text old.redo
  pub undone : new.undone ≡ old.undone

-- what opening finds of the session's three devices
abbrev pub SessionFinds : {D T : Type 0} → (D → List ℕ) → (T → List ℕ) → SessionView D T → Images → Type 0
SessionFinds image text s images = Finds (text s.journal) (image s.image) (text s.redo) images

-- opening finds the one images or the others
abbrev pub FindsEither : {D T : Type 0} → (D → List ℕ) → (T → List ℕ) → SessionView D T → Images → Images → Type 0
FindsEither image text s old new = SessionFinds image text s old ⊎ SessionFinds image text s new

-- no call of a device failed
abbrev pub IsUnfailed : {D T : Type 0} → (D → ℕ) → (T → ℕ) → SessionView D T → SessionView D T → Type 0
IsUnfailed failures text_failures old new = (failures new.image ≡ failures old.image) × (text_failures new.journal ≡ text_failures old.journal)
    × (text_failures new.redo ≡ text_failures old.redo)

-- how the counts of failed calls of the session's three devices go on
abbrev pub SessionCounts : {D T : Type 0} → (D → ℕ) → (T → ℕ) → SessionView D T → SessionView D T → SessionFault → Type 0
SessionCounts failures text_failures old new e =
    ThreeCounts e (failures old.image) (text_failures old.journal) (text_failures old.redo) (failures new.image) (text_failures new.journal)
    (text_failures new.redo)

-- what a call promises: a broken session refuses it and stays, another refusal changes nothing, an interruption breaks the session, and counts tell what failed
pub record FailsSafely {D T V : Type 0} (d : DeviceViews D) (t : StoreViews T) (old new : SessionView D T) (result : Result V SessionFault) : Type 0 where
  pub broken : (old.is_broken ≡ true) ↔ IsErrOf result Broken
  pub same : IsErrOf result Broken → new ≡ old
  pub refused : d.faithful old.image → t.faithful old.journal → IfErr result (λ e. AfterFault e (Unit {0}) (IsSame d.image t.text old new))
  pub redo_same : t.faithful old.redo → IfErr result (λ e. AfterFault e (Unit {0}) (IsRedoSame t.text old new))
  pub unmoved : IfErr result (λ e. (new.count ≡ old.count) × (new.undone ≡ old.undone) × AfterFault e (new.is_broken ≡ true) (new.is_broken ≡ old.is_broken))
  pub faith : (d.faithful new.image ↔ d.faithful old.image) × (t.faithful new.journal ↔ t.faithful old.journal)
      × (t.faithful new.redo ↔ t.faithful old.redo)
  pub counts : MatchResult result (λ n. IsUnfailed d.failures t.failures old new) (SessionCounts d.failures t.failures old new)
