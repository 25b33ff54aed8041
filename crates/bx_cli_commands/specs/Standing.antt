-- Where a session stands, and what one call of it makes of that. Lists of images have the newest first.
use Rattle.std.specs.Prelude.{◌≡◌, ◌⊎◌, ◌<◌, ◌≤◌, ℕ, ◌+◌, true, Result, Ok, Err, List, [], length}
use Rattle.bx_image.specs.declared.change.Change.{Change}
use Rattle.bx_image.specs.declared.change.TheConstants.{MAX_LEN}
use Rattle.bx_image.specs.declared.device.Device.{Ghosts as DeviceViews}
use Rattle.bx_image.specs.Change.{effect, Fits}
use Rattle.bx_journal_store.specs.declared.store.TextStore.{Ghosts as StoreViews}
use Rattle.bx_journal.specs.Images.{Images, change_to}
use Rattle.bx_journal.specs.SessionView.{SessionView}
use Rattle.bx_journal.specs.SessionFault.{SessionFault}
use Rattle.bx_journal.specs.SessionFault.TheVariants.{NoMemory, DeviceFailed, JournalFull, Interrupted}
use Rattle.bx_journal.specs.Machine.{PerformStep, top, changes_of}
use Rattle.bx_journal.specs.Session.{HasUndone, IsReady, SessionFinds}
use Rattle.bx_journal.specs.Standing.{IsStanding}

-- A session that goes on and stands for these images; or one that was stopped, and opening its devices finds them
pub data Standing : Type 0 where
  Up : Images → Standing
  Down : Images → Standing

-- the session goes on and its devices stand for the images, be the journal sound or not
abbrev pub Shows : {D T : Type 0} → (D → List ℕ) → (T → List ℕ) → SessionView D T → Images → Type 0
Shows image text s images = IsStanding image text s images.stack × HasUndone image text s images.undone

-- the session goes on, its devices stand for the images, and the journal is sound
abbrev pub RestsAt : {D T : Type 0} → (D → List ℕ) → (T → List ℕ) → SessionView D T → Images → Type 0
RestsAt image text s images = IsReady image text s images.stack × HasUndone image text s images.undone

-- The three devices are faithful, and the session rests at the images, or it is broken and opening finds them
abbrev pub HoldsAt : {D T : Type 0} → DeviceViews D → StoreViews T → SessionView D T → Standing → Type 0
HoldsAt d t s (Up images) = d.faithful s.image × t.faithful s.journal × t.faithful s.redo × RestsAt d.image t.text s images
HoldsAt d t s (Down images) =
    d.faithful s.image × t.faithful s.journal × t.faithful s.redo × ((s.is_broken ≡ true) × SessionFinds d.image t.text s images)

-- wherever the first session stands, the last one stands where the step leads from there
abbrev pub LeadsOn : {S X : Type 0} → (S → X → Type 0) → (X → X → Type 0) → S → S → Type 0
LeadsOn {X = X} Stands Step old new = (before : X) → Stands old before → (after : X) × Stands new after × Step before after

-- A change gives up what was undone. A device that fails before the first write refuses it; one that fails later stops the
-- session, and opening finds the images before or after the change. Only a change that fits meets want of memory, or is stopped;
-- and a full journal comes before want of memory.
abbrev pub PerformUp : {A : Type 0} → Change A → Images → Result ℕ SessionFault → Standing → Type 0
PerformUp c old (Ok n) after = (new : Images) × (after ≡ Up new) × PerformStep old.stack c (Ok n) new.stack × (new.undone ≡ [])
PerformUp c old (Err DeviceFailed) after = after ≡ Up old
PerformUp c old (Err JournalFull) after = (65535 ≤ changes_of old.stack) × (after ≡ Up old)
PerformUp c old (Err NoMemory) after = (after ≡ Up old) × (changes_of old.stack < 65535) × Fits c (length (top old.stack)) MAX_LEN
PerformUp c old (Err Interrupted) after = ((after ≡ Down old) ⊎ (after ≡ Down (change_to (effect c (top old.stack)) old)))
    × Fits c (length (top old.stack)) MAX_LEN
PerformUp c old (Err e) after = (after ≡ Up old) × PerformStep old.stack c (Err e) old.stack

-- An undo or a redo of k: `Step` is its step, and `moved` tells the images behind it. A device that fails before the first
-- write refuses it; where one stops it, opening finds what an undo, or a redo, of some of the changes leaves.
abbrev pub MovesUp : (Images → ℕ → Result ℕ SessionFault → Images → Type 0) → (ℕ → Images → Images) → ℕ → Images → Result ℕ SessionFault → Standing → Type 0
MovesUp Step moved k old (Ok n) after = (new : Images) × (after ≡ Up new) × Step old k (Ok n) new × (new ≡ moved k old)
MovesUp Step moved k old (Err DeviceFailed) after = after ≡ Up old
MovesUp Step moved k old (Err Interrupted) after = (i : ℕ) × (i ≤ k) × (after ≡ Down (moved i old))
MovesUp Step moved k old (Err e) after = (after ≡ Up old) × Step old k (Err e) old

-- how many calls of each of a session's devices failed is below a limit
abbrev pub CountsBelow : {D T : Type 0} → DeviceViews D → StoreViews T → ℕ → SessionView D T → Type 0
CountsBelow d t limit s = (d.failures s.image < limit) × (t.failures s.journal < limit) × (t.failures s.redo < limit)

-- No count of failed calls falls, and the three together rise by exactly `failed`
pub record CountsBy {D T : Type 0} (d : DeviceViews D) (t : StoreViews T) (old new : SessionView D T) (failed : ℕ) : Type 0 where
  pub image_least : d.failures old.image ≤ d.failures new.image
  pub journal_least : t.failures old.journal ≤ t.failures new.journal
  pub redo_least : t.failures old.redo ≤ t.failures new.redo
  pub rise : d.failures new.image + t.failures new.journal + t.failures new.redo
      ≡ d.failures old.image + t.failures old.journal + t.failures old.redo + failed
