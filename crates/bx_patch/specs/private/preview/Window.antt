-- Windows of an image.
use Rattle.std.specs.Prelude.{◌≡◌, ◌⊎◌, ◌<◌, ◌≤◌, ℕ, ◌+◌, List, length, slice_index, slice_index_or}
use Rattle.std.specs.List.{Contains}
use Rattle.bx_text.specs.declared.owned.pieces.Piece.{Piece}
use Rattle.bx_patch.specs.preview.Index.{Has, Meets, key_of}

-- A window has the bytes of an image from an address on, and zeros behind its end.
abbrev pub IsWindow : List ℕ → ℕ → List ℕ → Type 0
IsWindow window at y = (j : ℕ) → j < length window → slice_index window j ≡ slice_index y (at + j)

-- a piece begins behind n bytes at an address, or ends before them
abbrev pub IsOutside : {A : Type 0} → ℕ → ℕ → Piece A → Type 0
IsOutside at n p = (at + n ≤ p.at) ⊎ (p.at + length p.bytes ≤ at)

-- each piece is outside of n bytes at an address, or is named
abbrev pub AreFoundFor : {A : Type 0} → List ℕ → ℕ → List (Piece A) → ℕ → ℕ → Type 0
AreFoundFor {A} names first ps at n = (i : ℕ) (d : Piece A) → i < length ps → IsOutside at n (slice_index_or ps i d) ⊎ Has names (first + i)

-- each of the first pieces is named in each window that it meets
abbrev pub AreAllNamed : {A : Type 0} → List ℕ → List (Piece A) → ℕ → Type 0
AreAllNamed {A} keys ps count = (i : ℕ) (d : Piece A) (window : ℕ) → i < count → Meets (slice_index_or ps i d) window → Contains keys (key_of window i)
