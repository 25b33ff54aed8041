-- Bytes that stand in pages of 4,096 bytes.
use Rattle.std.specs.Prelude.{◌≡◌, ◌<◌, ◌≤◌, ℕ, ◌+◌, ◌++◌, List, [], length, get_or, map, take, drop, slice_index}

-- the bytes of the page with this number, or none past the last
abbrev pub page_at : {P : Type 0} → List P → (P → List ℕ) → ℕ → List ℕ
page_at pages bytes k = get_or (map bytes pages) k []

-- x with these bytes in place of those that stand at an address
abbrev pub written_over : List ℕ → ℕ → List ℕ → List ℕ
written_over x at bytes = take at x ++ bytes ++ drop (at + length bytes) x

-- bytes were written over what stood at an address
pub record IsWrittenOver (at : ℕ) (bytes : List ℕ) (old new : ℕ → ℕ) : Type 0 where
  pub below : (i : ℕ) → i < at → new i ≡ old i
  pub within : (j : ℕ) → j < length bytes → new (at + j) ≡ slice_index bytes j
  pub above : (i : ℕ) → at + length bytes ≤ i → new i ≡ old i

-- zeros were written from one address up to another
pub record IsCleared (from to : ℕ) (old new : ℕ → ℕ) : Type 0 where
  pub below : (i : ℕ) → i < from → new i ≡ old i
  pub within : (i : ℕ) → from ≤ i → i < to → new i ≡ 0
  pub above : (i : ℕ) → to ≤ i → new i ≡ old i
