-- Addresses that changes don't touch.
use Rattle.std.specs.Prelude.{◌≡◌, ℕ, false, List, [], ◌∷◌}
use Rattle.bx_image.specs.declared.change.Change.{Change}
use Rattle.bx_image.specs.Change.{touches}

-- none of the changes touches the address
unfoldable pub AreUntouched : {A : Type 0} → List (Change A) → ℕ → Type 0
AreUntouched [] i = Unit {0}
AreUntouched (c ∷ cs) i = (touches c i ≡ false) × AreUntouched cs i
