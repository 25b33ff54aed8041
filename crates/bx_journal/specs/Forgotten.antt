-- Forgetting: all changes are accepted, and the history is dropped.
use Rattle.std.specs.Prelude.{◌≡◌, ◌⊎◌, ℕ, List, [], ◌∷◌, Result, IfErr}
use Rattle.bx_image.specs.Power.{AllFade, Only}
use Rattle.bx_image.specs.declared.device.Device.{Ghosts as DeviceViews}
use Rattle.bx_journal_store.specs.Store.{IsCutInPart}
use Rattle.bx_journal_store.specs.declared.store.TextStore.{Ghosts as StoreViews}
use Rattle.bx_journal_model.specs.declared.devices.Devices.{Devices}
use Rattle.bx_journal_model.specs.Power.{Found}
use Rattle.bx_journal_protocol.specs.protocol.Written.{AreSettled}
use Rattle.bx_journal_model.specs.declared.fault.SessionFault.{SessionFault}
use Rattle.bx_journal_model.specs.declared.fault.SessionFault.TheVariants.{DeviceFailed, Interrupted}
use Rattle.bx_journal_model.specs.Calls.{AfterFault}
use Rattle.bx_journal_model.specs.Images.{Images}
use Rattle.bx_journal_model.specs.Phase.{IsAtRest}
use Rattle.bx_journal_model.specs.Redo.{IsRedoOf}
use Rattle.bx_journal.specs.Losses.{emptied}

-- which fault forgetting may answer
abbrev pub ForgetDevicesFault : SessionFault → Type 0
ForgetDevicesFault DeviceFailed = Unit {0}
ForgetDevicesFault Interrupted = Unit {0}
ForgetDevicesFault e = ⊥

-- what a text is that was to be emptied, where a cut to nothing is never found half made: as it was, or empty
abbrev pub IsWhole : List ℕ → List ℕ → Type 0
IsWhole old new = (new ≡ old) ⊎ (new ≡ [])

-- whatever is found of it is the text as it was, or an empty one: no front of a journal, which would be one of older images
abbrev pub IsFoundWhole : List ℕ → (List ℕ → Type 0) → Type 0
IsFoundWhole text survives = (c : List ℕ) → survives c → IsWhole text c

-- an image alone, with nothing undone
abbrev pub only : List ℕ → Images
only x = record { stack = x ∷ []; undone = [] }

-- it holds of the old images, of the same with nothing undone, or of those that are left
abbrev pub OfSome : Images → Images → (Images → Type 0) → Type 0
OfSome s left Holds = Holds s ⊎ (Holds (emptied s) ⊎ Holds left)

-- behind an interruption this holds
abbrev pub BehindInterruption : {V : Type 0} → Result V SessionFault → Type 0 → Type 0
BehindInterruption result holds = IfErr result (λ e. AfterFault e holds (Unit {0}))

-- What a call that was stopped leaves of both texts: fronts, and of the journal all, unless the redo text is empty
pub record LeavesTexts (journal redo journal_new redo_new : List ℕ) : Type 0 where
  pub journal_part : IsCutInPart 0 journal journal_new
  pub redo_part : IsCutInPart 0 redo redo_new
  pub redo_first : (journal_new ≡ journal) ⊎ (redo_new ≡ [])

-- And what is found of them after a loss of power
pub record FadesInOrder (journal redo : List ℕ) (survives redo_survives : List ℕ → Type 0) : Type 0 where
  pub journal_part : AllFade 0 journal survives
  pub redo_part : AllFade 0 redo redo_survives
  pub redo_first : Only journal survives ⊎ Only [] redo_survives

-- Of both texts, where a cut to nothing is one step: each is found whole or empty, and so it is there
pub record AreFoundWhole {T : Type 0} (t : StoreViews T) (journal redo journal_new redo_new : T) : Type 0 where
  pub journal_whole : t.empties_at_once → IsFoundWhole (t.text journal) (t.survives journal_new)
  pub redo_whole : t.empties_at_once → IsFoundWhole (t.text redo) (t.survives redo_new)

-- behind an interruption both texts are fronts of what they were
abbrev pub HaveLost : {D T : Type 0} → StoreViews T → Devices D T → Devices D T → Type 0
HaveLost t old new = LeavesTexts (t.text old.journal) (t.text old.redo) (t.text new.journal) (t.text new.redo)

-- both texts are as they were
abbrev pub KeepTexts : {D T : Type 0} → StoreViews T → Devices D T → Devices D T → Type 0
KeepTexts t old new = (t.text new.journal ≡ t.text old.journal) × (t.text new.redo ≡ t.text old.redo)

-- behind an interruption both are fronts of what they were, and behind each other fault as they were
abbrev pub LoseOrKeep : {D T V : Type 0} → StoreViews T → Devices D T → Devices D T → Result V SessionFault → Type 0
LoseOrKeep t old new result = IfErr result (λ e. AfterFault e (HaveLost t old new) (KeepTexts t old new))

-- Where no text of three is cut in part, opening finds the images that it found in the three before, the same with nothing undone, or the old
-- image alone
abbrev pub IsFoundInPart : {D T : Type 0} → DeviceViews D → StoreViews T → Devices D T → Images → List ℕ → List ℕ → List ℕ → Type 0
IsFoundInPart d t old s text x redo =
    IsWhole (t.text old.journal) text → IsWhole (t.text old.redo) redo → OfSome s (only (d.image old.image)) (Found text x redo)

-- Of three devices, whatever their texts are.
module _ {D T : Type 0} (d : DeviceViews D) (t : StoreViews T) where
  -- both texts are empty, with the image they stand for it alone, with nothing undone, and all three are on the disk
  pub record AreAlone (x : List ℕ) (new : Devices D T) : Type 0 where
    pub journal : t.text new.journal ≡ []
    pub redo : t.text new.redo ≡ []
    pub rest : IsAtRest (t.text new.journal) (d.image new.image) (x ∷ [])
    pub undone : IsRedoOf (t.text new.redo) (d.image new.image) 0 []
    pub settled : AreSettled d t new

  -- behind a loss of power: the image as it was, and of the texts what is left where the redo text is emptied first
  pub record KeepImage (old new : Devices D T) : Type 0 where
    pub image : Only (d.image old.image) (d.survives new.image)
    pub texts : FadesInOrder (t.text old.journal) (t.text old.redo) (t.survives new.journal) (t.survives new.redo)
    pub whole : AreFoundWhole t old.journal old.redo new.journal new.redo

  -- what is found behind an interruption, and behind a loss of power
  abbrev pub ForgetsInPart : {V : Type 0} → Devices D T → Devices D T → Result V SessionFault → Type 0
  ForgetsInPart old new result = (s : Images) → Found (t.text old.journal) (d.image old.image) (t.text old.redo) s → IfErr result (λ e. AfterFault e
      (IsFoundInPart d t old s (t.text new.journal) (d.image new.image) (t.text new.redo) × ((x text redo : List ℕ) → d.survives new.image x
      → t.survives new.journal text → t.survives new.redo redo → IsFoundInPart d t old s text x redo)) (Unit {0}))
