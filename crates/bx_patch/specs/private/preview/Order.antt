-- Pieces in order.
use Rattle.std.specs.Prelude.{◌≤◌, ◌+◌, List, length}
use Rattle.std.specs.List.Sorted.{IsNonDecreasingBy}
use Rattle.bx_text.specs.declared.owned.pieces.Piece.{Piece}

-- a piece neither begins nor ends before another one
abbrev pub IsNotBefore : {A : Type 0} → Piece A → Piece A → Type 0
IsNotBefore piece other = (other.at ≤ piece.at) × (other.at + length other.bytes ≤ piece.at + length piece.bytes)

-- the addresses of the pieces rise, and so do their ends
abbrev pub AreByPlace : {A : Type 0} → List (Piece A) → Type 0
AreByPlace pieces = IsNonDecreasingBy (λ p. p.at) pieces × IsNonDecreasingBy (λ p. p.at + length p.bytes) pieces
