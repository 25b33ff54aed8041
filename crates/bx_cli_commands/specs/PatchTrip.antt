-- A patch that is written, read back, and made on an image.
use Rattle.std.specs.Prelude.{◌≡◌, ◌≢◌, ℕ, Bool, true, false, if◌then◌else◌, IsTrue, List, length, slice_index}
use Rattle.bx_image.specs.declared.device.Device.{Ghosts as DeviceViews}
use Rattle.bx_image.specs.Change.{effect}
use Rattle.bx_journal_store.specs.declared.store.TextStore.{Ghosts as StoreViews}
use Rattle.bx_journal.specs.Devices.{Devices}
use Rattle.bx_patch.specs.Grammar.{IsPatch}
use Rattle.bx_patch.specs.Patch.{Agrees, Asked, patch_change, reversed}
use Rattle.bx_patch.specs.Text.{differs}

-- what a text asks, or the same turned round
pub record IsReadBack (text : List ℕ) (reverse : Bool) (asked : Asked) : Type 0 where
  pub told : Asked
  pub read : IsPatch text told
  pub asked_is : asked ≡ (if reverse then reversed told else told)

-- Of a device and stores with these views.
module _ {D T : Type 0} (d : DeviceViews D) (t : StoreViews T) where
  -- the three hold what they held
  pub record HoldTheSame (old new : Devices D T) : Type 0 where
    pub image : d.image new.image ≡ d.image old.image
    pub journal : t.text new.journal ≡ t.text old.journal
    pub redo : t.text new.redo ≡ t.text old.redo

  -- an image that agrees with a patch is changed by it, and of another one nothing changes
  pub record IsPatched (A : Type 0) (p : Asked) (old new : Devices D T) (made : Bool) : Type 0 where
    pub agrees : made ≡ true → Agrees p (d.image old.image)
    pub changed : made ≡ true → d.image new.image ≡ effect {A = A} (patch_change p) (d.image old.image)
    pub disagrees : made ≡ false → Agrees p (d.image old.image) → ⊥
    pub same : made ≡ false → HoldTheSame old new

  -- Of the patch from x to y, or the other way round of that from y to x: the image that it is of becomes the other one; of an image that
  -- disagrees nothing changes; and one that agrees has x's length, and x's byte wherever x and y differ.
  pub record DiffsAndPatches (x y : List ℕ) (reverse : Bool) (old new : Devices D T) (made : Bool) : Type 0 where
    pub makes : d.image old.image ≡ (if reverse then y else x) → (made ≡ true) × (d.image new.image ≡ (if reverse then x else y))
    pub same : made ≡ false → HoldTheSame old new
    pub strict : reverse ≡ false → made ≡ true → x ≢ y
        → (length (d.image old.image) ≡ length x) × ((i : ℕ) → IsTrue (differs x y i) → slice_index (d.image old.image) i ≡ slice_index x i)
