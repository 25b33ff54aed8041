-- Calls that only look at a device, and which faults come before the first write.
use Rattle.std.specs.Prelude.{◌≡◌, ◌↔◌, ◌≤◌, ℕ, ◌+◌, Bool, List, Result, OnOk, IfErr}
use Rattle.bx_image.specs.Device.{GoesOn}
use Rattle.bx_image.specs.Power.{NoMore}
use Rattle.bx_journal_store.specs.declared.store.TextStore.{Ghosts as StoreViews}
use Rattle.bx_journal_model.specs.declared.fault.SessionFault.{SessionFault}
use Rattle.bx_journal_model.specs.declared.fault.SessionFault.TheVariants.{DeviceFailed, Interrupted, LengthDiffers}
use Rattle.bx_journal_model.specs.Fault.{DeviceFault, LacksOrFails}
use Rattle.bx_journal_model.specs.Calls.{Differs}
use Rattle.bx_journal_format.specs.Text.{Entry}

-- one more failed call on one of two devices: no count falls, and both together rise by one
abbrev pub OneMore : ℕ → ℕ → ℕ → ℕ → Type 0
OneMore d t d_new t_new = (d ≤ d_new) × (t ≤ t_new) × (d_new + t_new ≡ d + t + 1)

-- how the counts of failed calls go on: a device's fault raises one of them by one, and another fault none
abbrev pub FaultCounts : SessionFault → ℕ → ℕ → ℕ → ℕ → Type 0
FaultCounts DeviceFailed d t d_new t_new = OneMore d t d_new t_new
FaultCounts Interrupted d t d_new t_new = OneMore d t d_new t_new
FaultCounts e d t d_new t_new = (d_new ≡ d) × (t_new ≡ t)

-- a call that only looks at a device, the image's or a text's: it changes nothing, and its fault tells whether the device failed
pub record LooksAt {D R : Type 0} (faithful : D → Type 0) (view : D → List ℕ) (failures : D → ℕ) (result : Result R SessionFault) (old new : D) : Type 0 where
  pub same : faithful old → view new ≡ view old
  pub faith : faithful new ↔ faithful old
  pub no_failure : OnOk result (failures new ≡ failures old)
  pub counts : IfErr result (λ e. FaultCounts e (failures old) 0 (failures new) 0)

-- a call that takes memory and only looks at a text: its fault is one of these two, the text stays, and a loss of power finds no more than before
pub record LooksThrough {T R : Type 0} (t : StoreViews T) (result : Result R SessionFault) (old new : T) : Type 0 where
  pub fault : IfErr result LacksOrFails
  pub looks : LooksAt t.faithful t.text t.failures result old new
  pub survives : t.faithful old → NoMore (t.survives old) (t.survives new)

-- calls that only read a text, the last of them failed or not: the text stays, and a loss of power finds no more than before
pub record OnlyReadsText {T : Type 0} (t : StoreViews T) (failed : Bool) (old new : T) : Type 0 where
  pub text : t.faithful old → t.text new ≡ t.text old
  pub survives : t.faithful old → NoMore (t.survives old) (t.survives new)
  pub goes_on : GoesOn t.faithful t.room t.failures failed old new

-- which fault may come between reading the text and the first write
abbrev pub LookFault : Type 0 → List Entry → List ℕ → SessionFault → Type 0
LookFault faithful es x (LengthDiffers n) = faithful → Differs es x n
LookFault faithful es x e = DeviceFault e
