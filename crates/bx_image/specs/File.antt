-- What one call of a file that is read and written at addresses leaves.
use Rattle.std.specs.Prelude.{◌≡◌, ◌≤◌, ℕ, min, max, Result, Ok, Err, List, length, take}
use Rattle.bx_image.specs.declared.device.access.Stop.{Stop}
use Rattle.bx_image.specs.declared.device.access.Stop.TheVariants.{Interrupted, Failed}
use Rattle.bx_image.specs.Image.{place, cut}

-- a front of the bytes was placed
abbrev pub IsFrontPlaced : ℕ → List ℕ → List ℕ → List ℕ → Type 0
IsFrontPlaced at bytes old new = (k : ℕ) × (new ≡ place old at (take k bytes))

-- the length was changed by some of the way to n
abbrev pub IsCutOnTheWay : ℕ → List ℕ → List ℕ → Type 0
IsCutOnTheWay n old new = (m : ℕ) × (min (length old) n ≤ m) × (m ≤ max (length old) n) × (new ≡ cut old m)

-- after a write that took the first n of the bytes, or was stopped
abbrev pub WriteLeaves : Result ℕ Stop → ℕ → List ℕ → List ℕ → List ℕ → Type 0
WriteLeaves (Ok n) at bytes old new = new ≡ place old at (take n bytes)
WriteLeaves (Err Interrupted) at bytes old new = new ≡ old
WriteLeaves (Err Failed) at bytes old new = IsFrontPlaced at bytes old new

-- after a change of the length to n, or one that was stopped
abbrev pub ResizeLeaves : {T : Type 0} → Result T Stop → ℕ → List ℕ → List ℕ → Type 0
ResizeLeaves (Ok v) n old new = new ≡ cut old n
ResizeLeaves (Err Interrupted) n old new = new ≡ old
ResizeLeaves (Err Failed) n old new = IsCutOnTheWay n old new
