-- Pieces by the windows that they reach into.
use Rattle.std.specs.Prelude.{◌≡◌, ◌<◌, ◌≤◌, ◌+◌, ◌*◌, ℕ, Bool, true, List, length, slice_index_or}
use Rattle.std.specs.List.{All, Contains}
use Rattle.std.specs.List.Sorted.{IsNonDecreasing}
use Rattle.bx_text.specs.declared.owned.pieces.Piece.{Piece}
use Rattle.bx_image.specs.declared.change.Change.{Change}

-- the number by which an index names a piece in a window of 32,768 bytes: numbers rise by window, and in one by the order of the pieces
abbrev pub key_of : ℕ → ℕ → ℕ
key_of window i = window * 1073741824 + i

-- A piece has its start, its end or an address between them in a window.
abbrev pub Meets : {A : Type 0} → Piece A → ℕ → Type 0
Meets p window = (p.at < window * 32768 + 32768) × (window * 32768 ≤ p.at + length p.bytes)

-- a number isn't missing in a list
abbrev pub Has : List ℕ → ℕ → Type 0
Has keys k = (Contains keys k → ⊥) → ⊥

-- An index of pieces names each of them in each window that it meets.
abbrev pub IsIndexOf : {A : Type 0} → List ℕ → List (Piece A) → Type 0
IsIndexOf {A} keys ps = (length ps ≤ 1073741824) × IsNonDecreasing keys
    × ((i : ℕ) (d : Piece A) (window : ℕ) → i < length ps → Meets (slice_index_or ps i d) window → Has keys (key_of window i))

-- what an index has, and whether there is one
pub record Index : Type 0 where
  pub keys : List ℕ
  pub made : Bool

-- what is an index is one of each of the changes
abbrev pub IsIndexFor : {A : Type 0} → Index → List (Change A) → Type 0
IsIndexFor index cs = index.made ≡ true → All (λ c. IsIndexOf index.keys c.writes) cs
