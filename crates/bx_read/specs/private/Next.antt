-- The next piece of a dump.
use Rattle.std.specs.Prelude.{◌≡◌, ◌⊎◌, ℕ, List, [], ◌∷◌, Option, None, Some, Result, Ok, Err}
use Rattle.bx_text.specs.declared.owned.pieces.Piece.{Piece}
use Rattle.bx_read.specs.Digits.{pairs_of}
use Rattle.bx_read.specs.Text.{ReadLine}
use Rattle.bx_read.specs.declared.fault.ReadFault.{ReadFault}
use Rattle.bx_read.specs.declared.fault.ReadFault.TheVariants.{NoMemory}

-- the piece is that of the first line of those that come, or there is none
abbrev pub IsNextPiece : {A : Type 0} → List (Result ReadLine ReadFault) → List (Result ReadLine ReadFault) → Option (Piece A) → Type 0
IsNextPiece old new None = old ≡ []
IsNextPiece old new (Some piece) =
    (hex : List ℕ) × (number : ℕ) × (pairs_of hex ≡ Some piece.bytes) × (old ≡ Ok (piece.at, hex, number) ∷ new)

-- memory was refused, or the first of the lines that come has this fault
abbrev pub IsNextFault : List (Result ReadLine ReadFault) → ReadFault → Type 0
IsNextFault old fault = (fault ≡ NoMemory) ⊎ ((later : List (Result ReadLine ReadFault)) × (old ≡ Err fault ∷ later))
