-- The devices of a session together: the image, the journal's text and the redo text.
use Rattle.std.specs.Prelude.{◌≡◌, ◌↔◌, ◌⊎◌, ◌<◌, ◌≤◌, ℕ, List, Result, OnOk, OnErr, IfErr}
use Rattle.bx_image.specs.declared.device.Device.{Ghosts as DeviceViews}
use Rattle.bx_journal_store.specs.declared.store.TextStore.{Ghosts as StoreViews}
use Rattle.bx_journal_model.specs.declared.devices.Devices.{Devices}
use Rattle.bx_image.specs.Power.{NoMore}
use Rattle.bx_journal_model.specs.Opening.{OneMoreOfThree, ThreeCounts}
use Rattle.bx_journal_model.specs.Looking.{OneMore}
use Rattle.bx_journal_model.specs.declared.fault.SessionFault.{SessionFault}

-- the counts of failed calls of the three are below a limit
abbrev pub AreBelow : {D T : Type 0} → DeviceViews D → StoreViews T → ℕ → Devices D T → Type 0
AreBelow d t limit x = (d.failures x.image < limit) × (t.failures x.journal < limit) × (t.failures x.redo < limit)

-- the image's step comes before the redo text's: where one of them failed, the redo text is as it was, or the image's is done
abbrev pub ImageIsFirst : {D T R E : Type 0} → (D → Type 0) → (D → List ℕ) → Result R E → (List ℕ → List ℕ) → D → D → T → T → Type 0
ImageIsFirst faithful image result step d d_new u u_new = faithful d → OnErr result ((u_new ≡ u) ⊎ (image d_new ≡ step (image d)))

-- no call of the three failed
abbrev pub AreUnfailed : {D T V E : Type 0} → DeviceViews D → StoreViews T → Devices D T → Devices D T → Result V E → Type 0
AreUnfailed d t old new result = OnOk result ((d.failures new.image ≡ d.failures old.image) × (t.failures new.journal ≡ t.failures old.journal)
    × (t.failures new.redo ≡ t.failures old.redo))

-- Three devices go on behind a step: each is faithful if it was, and one of them counts one failure more where the step failed
pub record StepsOn {D T R E : Type 0} (d : DeviceViews D) (t : StoreViews T) (result : Result R E) (old new : Devices D T) : Type 0 where
  pub image_faith : d.faithful new.image ↔ d.faithful old.image
  pub journal_faith : t.faithful new.journal ↔ t.faithful old.journal
  pub redo_faith : t.faithful new.redo ↔ t.faithful old.redo
  pub no_failure : AreUnfailed d t old new result
  pub failure : OnErr result (OneMoreOfThree (d.failures old.image) (t.failures old.journal) (t.failures old.redo)
      (d.failures new.image) (t.failures new.journal) (t.failures new.redo))

-- The image is only read, and a text is written: both are faithful as before, neither has less room, and one counts a failure more where the call failed
pub record GoOnPaired {D T R E : Type 0} (d : DeviceViews D) (t : StoreViews T) (result : Result R E) (x : D) (s : T) (x_new : D) (s_new : T) : Type 0 where
  pub image : d.faithful x → d.image x_new ≡ d.image x
  pub survives : d.faithful x → NoMore (d.survives x) (d.survives x_new)
  pub image_faith : d.faithful x_new ↔ d.faithful x
  pub image_room : d.room x ≤ d.room x_new
  pub journal_faith : t.faithful s_new ↔ t.faithful s
  pub journal_room : t.room s ≤ t.room s_new
  pub no_failure : OnOk result ((d.failures x_new ≡ d.failures x) × (t.failures s_new ≡ t.failures s))
  pub failure : OnErr result (OneMore (d.failures x) (t.failures s) (d.failures x_new) (t.failures s_new))

-- A device and two texts behind calls that only looked at them: each is faithful if it was, and has what it had
pub record HaveStayed {D T : Type 0} (d : DeviceViews D) (t : StoreViews T) (old new : Devices D T) : Type 0 where
  pub image_faith : d.faithful new.image ↔ d.faithful old.image
  pub journal_faith : t.faithful new.journal ↔ t.faithful old.journal
  pub redo_faith : t.faithful new.redo ↔ t.faithful old.redo
  pub image_same : d.faithful old.image → d.image new.image ≡ d.image old.image
  pub text_same : t.faithful old.journal → t.text new.journal ≡ t.text old.journal
  pub redo_same : t.faithful old.redo → t.text new.redo ≡ t.text old.redo

-- the fault tells whether one of the three counts a failure more
abbrev pub AreCounted : {D T V : Type 0} → DeviceViews D → StoreViews T → Devices D T → Devices D T → Result V SessionFault → Type 0
AreCounted d t old new result = IfErr result (λ e. ThreeCounts e (d.failures old.image) (t.failures old.journal) (t.failures old.redo)
    (d.failures new.image) (t.failures new.journal) (t.failures new.redo))
