-- What a change makes of an image, what is saved of the image before, and what gives it back.
use Rattle.std.specs.Prelude.{◌≡◌, ℕ, ◌-◌, min, Bool, false, nat_le, Option, None, Some, List, slice_index, if◌then◌else◌}
use Rattle.std.specs.Option.{option_map_or}
use Rattle.std.specs.List.{list_any}
use Rattle.bx_text.specs.declared.owned.pieces.Piece.{Piece}
use Rattle.bx_image.specs.Image.{cut, is_within}
use Rattle.bx_image.specs.Change.{with_byte}
use Rattle.bx_image.specs.Device.{IsPartlyCut}
use Rattle.bx_image.specs.Power.{KeepsBelow}

-- x cut to the base, where there is one
abbrev pub cut_to : Option ℕ → List ℕ → List ℕ
cut_to base x = option_map_or (cut x) base x

-- whether an address lies at or above the base
abbrev pub is_cut_off : Option ℕ → ℕ → Bool
is_cut_off base i = option_map_or (λ n. nat_le n i) base false

-- whether one of the pieces covers the address
abbrev pub is_covered : {A : Type 0} → List (Piece A) → ℕ → Bool
is_covered pieces i = list_any (λ w. is_within w.at w.bytes i) pieces

-- the byte of a piece at an address
abbrev pub byte_of : {A : Type 0} → Piece A → ℕ → Option ℕ
byte_of piece i = if is_within piece.at piece.bytes i then Some (slice_index piece.bytes (i - piece.at)) else None

-- runs with a byte in front, where there is one
abbrev pub with_byte_if : {A : Type 0} → ℕ → Option ℕ → List (Piece A) → List (Piece A)
with_byte_if at byte runs = option_map_or (λ b. with_byte at b runs) byte runs

-- after a failed cut to the base
abbrev pub IsPartlyCutTo : Option ℕ → List ℕ → List ℕ → Type 0
IsPartlyCutTo None old new = new ≡ old
IsPartlyCutTo (Some n) old new = IsPartlyCut n old new

-- below the base, where there is one, what is found was there
abbrev pub KeepsBelowBase : Option ℕ → ℕ → List ℕ → List ℕ → Type 0
KeepsBelowBase None len old new = new ≡ old
KeepsBelowBase (Some n) len old new = KeepsBelow (min n len) old new
