-- Bytes of an image that are kept in a page, and calls that only read an image.
use Rattle.std.specs.Prelude.{ℕ, ◌≡◌, ◌+◌, ◌≤◌, Bool, List, length, take, drop}
use Rattle.bx_image.specs.declared.cached.Cached.{Cached}
use Rattle.bx_image.specs.declared.device.Device.{Ghosts as DeviceViews}
use Rattle.bx_image.specs.Device.{GoesOn}
use Rattle.bx_image.specs.Power.{NoMore}

-- the bytes of a page that count are the image's, which is of this length, where that is faithful
pub record IsCache (faithful : Type 0) (image page : List ℕ) (c : Cached) : Type 0 where
  pub long : faithful → c.len ≡ length image
  pub are : faithful → take c.count page ≡ take c.count (drop c.at image)
  pub inside : c.count ≤ length page

-- the page has the bytes at an address
abbrev pub HasCached : Cached → ℕ → ℕ → Type 0
HasCached c at count = (c.at ≤ at) × (at + count ≤ c.at + c.count)

-- calls that only read an image, the last of them failed or not: it stays, a loss of power finds no more than before, and a failure is counted
pub record OnlyReadsImage {D : Type 0} (d : DeviceViews D) (failed : Bool) (old new : D) : Type 0 where
  pub image : d.faithful old → d.image new ≡ d.image old
  pub survives : d.faithful old → NoMore (d.survives old) (d.survives new)
  pub goes_on : GoesOn d.faithful d.room d.failures failed old new
