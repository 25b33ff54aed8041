-- What callers see of an image behind changes that are made one after another.
use Rattle.std.specs.Prelude.{◌≡◌, ◌⊎◌, ◌≤◌, ◌++◌, ℕ, Bool, true, false, List, [], ◌∷◌, length}
use Rattle.bx_image.specs.declared.change.Change.{Change}
use Rattle.bx_image.specs.declared.device.Device.{Ghosts as DeviceViews}
use Rattle.bx_image.specs.declared.device.ImageFault.{ImageFault}
use Rattle.bx_image.specs.declared.device.ImageFault.TheVariants.{DeviceFailed, NoMemory, TooLarge}
use Rattle.bx_image.specs.Change.{effect, Fits}
use Rattle.bx_patch.specs.Diff.{OnlyReads}

-- the image that changes make of x, one after another
unfoldable pub effects : {A : Type 0} → List (Change A) → List ℕ → List ℕ
effects [] x = x
effects (c ∷ cs) x = effects cs (effect c x)

-- each change fits what those before it make of x
unfoldable pub FitInTurn : {A : Type 0} → List (Change A) → List ℕ → ℕ → Type 0
FitInTurn [] x limit = Unit {0}
FitInTurn (c ∷ cs) x limit = Fits c (length x) limit × FitInTurn cs (effect c x) limit

-- the device that has the image, the changes, the image's length before and behind them, how many calls have failed, and whether one of
-- them was a call that would write
pub record Changed (D A : Type 0) : Type 0 where
  pub device : D
  pub changes : List (Change A)
  pub before : ℕ
  pub len : ℕ
  pub failures : ℕ
  pub refused : Bool

-- the lengths are those of an image before and behind changes
pub record AreLengthsOf {A : Type 0} (cs : List (Change A)) (x : List ℕ) (before len : ℕ) : Type 0 where
  pub before_is : before ≡ length x
  pub len_is : len ≡ length (effects cs x)
  pub within : length (effects cs x) ≤ len

-- the one image is what changes make of the other, which has this length
pub record AreBeforeAndBehind {A : Type 0} (cs : List (Change A)) (before : ℕ) (x y : List ℕ) : Type 0 where
  pub before_is : before ≡ length x
  pub behind : y ≡ effects cs x

-- whether there is no image behind changes because the device failed
abbrev pub is_of_device : ImageFault → Bool
is_of_device DeviceFailed = true
is_of_device NoMemory = false
is_of_device TooLarge = false

-- Of an image behind changes on a device.
module _ {D A : Type 0} (d : DeviceViews D) where
  -- what the changes make of the device's image
  abbrev pub image_behind : Changed D A → List ℕ
  image_behind c = effects c.changes (d.image c.device)

  -- the device is faithful, and the lengths are those of its image before and behind the changes
  abbrev pub faithful_behind : Changed D A → Type 0
  faithful_behind c = d.faithful c.device × AreLengthsOf c.changes (d.image c.device) c.before c.len

  -- After a loss of power no other image is found, unless a call that would write was refused: then one with a byte more may be. So where no
  -- more may be found than of a device that has refused none, which is what `OnlyReads` says, this one has refused none either.
  abbrev pub found_behind : Changed D A → List ℕ → Type 0
  found_behind c y = (y ≡ image_behind c) ⊎ (c.refused ≡ true) × (y ≡ image_behind c ++ 0 ∷ [])

-- its own length, which no call makes longer
abbrev pub room_behind : {D A : Type 0} → Changed D A → ℕ
room_behind c = c.len

-- how many of its own calls have failed
abbrev pub failures_behind : {D A : Type 0} → Changed D A → ℕ
failures_behind c = c.failures

-- Whoever only reads an image behind changes, as `OnlyReads` says, has no call refused. So `into_device` gives a device that failed as often.
abbrev pub OnlyReadRefusesNone : {D : Type 0} → DeviceViews D → Type 0 → Type 0
OnlyReadRefusesNone {D} d A = (c e : Changed D A) (failed : Bool) → faithful_behind d c → c.refused ≡ false
    → OnlyReads (faithful_behind d) (image_behind d) room_behind failures_behind (found_behind d) failed c e → e.refused ≡ false
