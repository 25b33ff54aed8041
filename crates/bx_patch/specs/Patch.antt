-- What a patch asks of an image, when an image agrees with it, and the change that it makes.
use Rattle.std.specs.Prelude.{◌≡◌, ◌⊎◌, ℕ, ◌+◌, ◌<◌, ◌≤◌, ◌==◌, if◌then◌else◌, Option, None, Some, List, [], ◌∷◌, map, length, take, drop, IfSome}
use Rattle.std.specs.List.{All}
use Rattle.std.specs.Option.{option_map, option_and_then}
use Rattle.bx_image.specs.declared.change.Change.{Change}

-- addresses, and the bytes at each
abbrev pub Pieces : Type 0
Pieces = List (ℕ × List ℕ)

-- What a patch asks: the length before and the one after, where it tells them, the pieces that the image is to have, and those that are
-- written. A piece is an address and bytes.
pub record Asked : Type 0 where
  pub lengths : Option (ℕ × ℕ)
  pub expected : Pieces
  pub written : Pieces

-- what is asked by a text without a line that counts
abbrev pub nothing_asked : Asked
nothing_asked = record { lengths = None; expected = []; written = [] }

-- The image has the bytes of a piece at its address.
abbrev pub HasPiece : List ℕ → ℕ × List ℕ → Type 0
HasPiece x piece = take (length piece.1) (drop piece.0 x) ≡ piece.1

-- The image has the length that the patch tells, and each piece that it expects.
pub record Agrees (p : Asked) (x : List ℕ) : Type 0 where
  pub long : IfSome p.lengths (λ lengths. length x ≡ lengths.0)
  pub has : All (HasPiece x) p.expected

-- the length to which an image is brought: the new one, where it isn't the old one
abbrev pub new_length : ℕ × ℕ → Option ℕ
new_length lengths = if lengths.0 == lengths.1 then None else Some lengths.1

-- The change of a patch: the new length is the base, and the pieces are written in order.
abbrev pub patch_change : {A : Type 0} → Asked → Change A
patch_change p = record { base = option_and_then new_length p.lengths; writes = map (λ piece. record { at = piece.0; bytes = piece.1 }) p.written }

-- The patch the other way round.
abbrev pub reversed : Asked → Asked
reversed p = record { lengths = option_map (λ lengths. (lengths.1, lengths.0)) p.lengths; expected = p.written; written = p.expected }

-- The patch writes no byte, and keeps the length.
pub record ChangesNothing (p : Asked) : Type 0 where
  pub written : p.written ≡ []
  pub lengths : option_and_then new_length p.lengths ≡ None

-- one of the pieces has a byte at the place
abbrev pub HasByteAt : Pieces → ℕ → Type 0
HasByteAt [] i = ⊥
HasByteAt (piece ∷ pieces) i = ((piece.0 ≤ i) × (i < piece.0 + length piece.1)) ⊎ HasByteAt pieces i

-- the first piece stands at a place or behind it, and each other one where the one before it ends, or behind that
abbrev pub AreInOrder : ℕ → Pieces → Type 0
AreInOrder from [] = Unit {0}
AreInOrder from (piece ∷ pieces) = (from ≤ piece.0) × AreInOrder (piece.0 + length piece.1) pieces

-- the place is below both lengths, where the patch has them
abbrev pub IsBelowBoth : Option (ℕ × ℕ) → ℕ → Type 0
IsBelowBoth lengths i = IfSome lengths (λ l. (i < l.0) × (i < l.1))

-- the place is one of those that are cut off
abbrev pub IsCutAway : Option (ℕ × ℕ) → ℕ → Type 0
IsCutAway None i = ⊥
IsCutAway (Some l) i = (l.1 ≤ i) × (i < l.0)

-- The patch can be turned round: its pieces stand in order, below both lengths they are expected and written at the same places, and each
-- place that is cut off is expected.
pub record TurnsRound (p : Asked) : Type 0 where
  pub old_order : AreInOrder 0 p.expected
  pub new_order : AreInOrder 0 p.written
  pub told : (i : ℕ) → IsBelowBoth p.lengths i → HasByteAt p.written i → HasByteAt p.expected i
  pub rewritten : (i : ℕ) → IsBelowBoth p.lengths i → HasByteAt p.expected i → HasByteAt p.written i
  pub cut : (i : ℕ) → IsCutAway p.lengths i → HasByteAt p.expected i
