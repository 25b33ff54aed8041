-- What is saved of an image, by its addresses.
use Rattle.std.specs.Prelude.{◌≡◌, ◌⊎◌, ℕ, ◌<◌, ◌≤◌, ◌-◌, None, Some, List, length, map, take, drop}
use Rattle.std.specs.List.{All}
use Rattle.bx_text.specs.declared.owned.pieces.Piece.{Piece}
use Rattle.bx_image.specs.declared.record.Saved.{Saved}
use Rattle.bx_image.specs.declared.record.spans.Span.{Span}
use Rattle.bx_image.specs.Change.{byte_in}

-- a range of addresses that isn't empty, and ends within the length
pub record IsWithin (len : ℕ) (s : Span) : Type 0 where
  pub some : s.at < s.end
  pub within : s.end ≤ len

-- each of the ranges is one
abbrev pub LieWithin : ℕ → List Span → Type 0
LieWithin len spans = All (IsWithin len) spans

-- the bytes of x in a range
abbrev pub run_over : {A : Type 0} → List ℕ → Span → Piece A
run_over x s = record { at = s.at; bytes = take (s.end - s.at) (drop s.at x) }

-- what is saved of x where these ranges are: its length, and its bytes in them
abbrev pub saved_over : {A : Type 0} → List ℕ → List Span → Saved A
saved_over x spans = record { len = length x; runs = map (run_over x) spans }

-- at each address the record has what the other has, or leaves out a zero that stands at the base or behind it
pub record LeavesZerosOut {A B : Type 0} (base : ℕ) (full : Saved A) (s : Saved B) : Type 0 where
  pub len : s.len ≡ full.len
  pub bytes : (i : ℕ) → (byte_in s.runs i ≡ byte_in full.runs i) ⊎ ((base ≤ i) × (byte_in s.runs i ≡ None) × (byte_in full.runs i ≡ Some 0))
