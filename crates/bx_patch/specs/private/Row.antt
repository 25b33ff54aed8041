-- The lines of rows, in windows.
use Rattle.std.specs.Prelude.{◌≡◌, ◌<◌, ◌≤◌, ℕ, ◌+◌, ◌*◌, true, false, List}
use Rattle.std.specs.List.{flat_map, range_with_len}
use Rattle.bx_text.specs.Fold.{line_bytes}
use Rattle.bx_patch.specs.declared.diff.row.Extent.{Extent}
use Rattle.bx_patch.specs.Text.{PatchLine, differs, row_lines}

-- two lists have the same bytes at the places of a range
abbrev pub AreSame : List ℕ → List ℕ → ℕ → ℕ → Type 0
AreSame x y from to = (j : ℕ) → from ≤ j → j < to → differs x y j ≡ false

-- they differ at each of them
abbrev pub AreOther : List ℕ → List ℕ → ℕ → ℕ → Type 0
AreOther x y from to = (j : ℕ) → from ≤ j → j < to → differs x y j ≡ true

-- the lines of the first n rows of two windows that begin at an address
abbrev pub window_lines : Extent → ℕ → List ℕ → List ℕ → ℕ → List PatchLine
window_lines extent at a b n = flat_map (λ k. row_lines extent (at + 16 * k) (line_bytes a k) (line_bytes b k)) (range_with_len 0 n)
