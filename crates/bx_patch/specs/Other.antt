-- What an image has otherwise than a patch expects.
use Rattle.std.specs.Prelude.{◌≡◌, ◌≢◌, ◌⊎◌, ℕ, ◌+◌, ◌<◌, Bool, true, false, not, bytes_eq, Option, None, Some, IfSome, List, [], ◌∷◌, length, take, drop}
use Rattle.bx_patch.specs.declared.other.Other.{Other}
use Rattle.bx_patch.specs.declared.other.Other.TheVariants.{Length, Bytes}
use Rattle.bx_patch.specs.Patch.{Agrees, Asked, HasPiece, Pieces}

-- whether an image has another byte than a piece at one of its places, or none
abbrev pub has_other : List ℕ → ℕ × List ℕ → ℕ → Bool
has_other x piece i = not (bytes_eq (take 1 (drop (piece.0 + i) x)) (take 1 (drop i piece.1)))

-- the image has the first i bytes of a piece
abbrev pub HasFirstBytes : List ℕ → ℕ × List ℕ → ℕ → Type 0
HasFirstBytes x piece i = (j : ℕ) → j < i → has_other x piece j ≡ false

-- the first place of a piece at which the image hasn't its byte
abbrev pub DiffersFirst : List ℕ → ℕ × List ℕ → ℕ → Type 0
DiffersFirst x piece i = (i < length piece.1) × HasFirstBytes x piece i × (has_other x piece i ≡ true)

-- the first address, in the order of the pieces, at which the image hasn't the byte that is expected
abbrev pub IsFirstOther : List ℕ → Pieces → ℕ → Type 0
IsFirstOther x [] at = ⊥
IsFirstOther x (piece ∷ pieces) at =
    ((i : ℕ) × DiffersFirst x piece i × (at ≡ piece.0 + i)) ⊎ (HasPiece x piece × IsFirstOther x pieces at)

-- the image has another length than this one, which the patch tells
abbrev pub IsOtherLength : Asked → List ℕ → ℕ → Type 0
IsOtherLength p x n = (lengths : ℕ × ℕ) × (p.lengths ≡ Some lengths) × (n ≡ lengths.0) × (length x ≢ n)

-- What the image has otherwise than the patch expects: the length, or where that is right the byte at an address.
abbrev pub HasOther : Asked → List ℕ → Other → Type 0
HasOther p x (Length n) = IsOtherLength p x n
HasOther p x (Bytes at) = IfSome p.lengths (λ lengths. length x ≡ lengths.0) × IsFirstOther x p.expected at

-- what is found: nothing where the image agrees with the patch
abbrev pub FindsOther : Asked → List ℕ → Option Other → Type 0
FindsOther p x None = Agrees p x
FindsOther p x (Some other) = HasOther p x other

-- An image that has anything otherwise doesn't agree.
abbrev pub OtherDisagrees : Type 0
OtherDisagrees = (p : Asked) (x : List ℕ) (other : Other) → HasOther p x other → Agrees p x → ⊥
