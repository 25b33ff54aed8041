-- Calls that only look at an image and texts.
use Rattle.std.specs.Prelude.{◌≡◌, ◌↔◌, ℕ, Bool, true, false, List}
use Rattle.bx_image.specs.declared.device.Device.{Ghosts as DeviceViews}
use Rattle.bx_image.specs.Power.{NoMore}
use Rattle.bx_journal_store.specs.declared.store.TextStore.{Ghosts as StoreViews}
use Rattle.bx_journal_model.specs.Opening.{OneMoreOfThree}
use Rattle.bx_journal_model.specs.Looking.{OneMore}

-- calls that only look at a device, the image's or a text's: it stays, and a loss of power finds no more than before
pub record LeavesDevice {D : Type 0} (faithful : D → Type 0) (view : D → List ℕ) (found : D → List ℕ → Type 0) (old new : D) : Type 0 where
  pub same : faithful old → view new ≡ view old
  pub survives : faithful old → NoMore (found old) (found new)
  pub faith : faithful new ↔ faithful old

-- how the counts of failed calls go on, where the last call on one of two devices failed or not
abbrev pub BothCount : Bool → ℕ → ℕ → ℕ → ℕ → Type 0
BothCount true d t d_new t_new = OneMore d t d_new t_new
BothCount false d t d_new t_new = (d_new ≡ d) × (t_new ≡ t)

-- calls that only look at an image and a text, the last of them failed or not
pub record LooksAtBoth {D T : Type 0} (d : DeviceViews D) (t : StoreViews T) (failed : Bool) (x y : D) (s u : T) : Type 0 where
  pub image : LeavesDevice d.faithful d.image d.survives x y
  pub text : LeavesDevice t.faithful t.text t.survives s u
  pub counted : BothCount failed (d.failures x) (t.failures s) (d.failures y) (t.failures u)

-- the same of three devices
abbrev pub ThreeCount : Bool → ℕ → ℕ → ℕ → ℕ → ℕ → ℕ → Type 0
ThreeCount true d t u d_new t_new u_new = OneMoreOfThree d t u d_new t_new u_new
ThreeCount false d t u d_new t_new u_new = (d_new ≡ d) × (t_new ≡ t) × (u_new ≡ u)
