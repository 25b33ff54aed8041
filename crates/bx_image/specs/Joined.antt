-- Writes that go on with one another as one write.
use Rattle.std.specs.Prelude.{◌≡◌, ◌⊎◌, ◌↔◌, ℕ, ◌+◌, List, [], ◌∷◌, ◌++◌, length}
use Rattle.bx_text.specs.declared.owned.pieces.Piece.{Piece}
use Rattle.bx_image.specs.declared.change.Change.{Change}
use Rattle.bx_image.specs.Change.{effect, Fits, saved, touches}

-- A piece in front of runs: by itself, or as the front of the first one, which begins where the piece ends.
abbrev pub IsInFront : {A : Type 0} → Piece A → List (Piece A) → List (Piece A) → Type 0
IsInFront {A = A} piece later runs =
    (runs ≡ piece ∷ later)
    ⊎ ((bytes : List ℕ) × (rest : List (Piece A)) × (later ≡ record { at = piece.at + length piece.bytes; bytes = bytes } ∷ rest)
    × (runs ≡ record { at = piece.at; bytes = piece.bytes ++ bytes } ∷ rest))

-- The runs are the pieces in their order; some neighbours are joined, where one begins at the end of the one before.
abbrev pub AreJoined : {A : Type 0} → List (Piece A) → List (Piece A) → Type 0
AreJoined runs [] = runs ≡ []
AreJoined {A = A} runs (piece ∷ pieces) = (later : List (Piece A)) × AreJoined later pieces × IsInFront piece later runs

-- Two changes that no image tells apart.
pub record IsSameChange {A : Type 0} (c d : Change A) : Type 0 where
  pub same_effect : (x : List ℕ) → effect c x ≡ effect d x
  pub same_fit : (len limit : ℕ) → Fits c len limit ↔ Fits d len limit
  pub same_touch : (i : ℕ) → touches c i ≡ touches d i
  pub same_record : (x : List ℕ) → saved c x ≡ saved d x

-- A change whose writes are runs of another one's writes, from the same base, is the same change.
abbrev pub JoinedIsSame : (A : Type 0) → Type 0
JoinedIsSame A = (c d : Change A) → c.base ≡ d.base → AreJoined c.writes d.writes → IsSameChange c d
