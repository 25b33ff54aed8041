-- Lines of 16 bytes; those that repeat the line before are folded.
use Rattle.std.specs.Prelude.{ℕ, ◌+◌, ◌/◌, Bool, true, false, List, length}
use Rattle.std.specs.List.{flat_map, range_with_len}
use Rattle.bx_text.specs.declared.line.fold.Fold.{Fold}
use Rattle.bx_text.specs.Fold.{line_text, HasTaken}

-- the same where lines are folded
abbrev pub IsTaken : Bool → Fold → List ℕ → ℕ → Type 0
IsTaken true fold bytes k = Unit {0}
IsTaken false fold bytes k = HasTaken fold bytes k

-- the texts of the first n lines, where line 0 is for address `at`
abbrev pub lines_to : (ℕ → List ℕ → List ℕ) → Bool → ℕ → List ℕ → ℕ → List ℕ
lines_to line all at bytes n = flat_map (line_text line all at bytes) (range_with_len 0 n)

-- how many lines there are
abbrev pub line_count : List ℕ → ℕ
line_count bytes = (length bytes + 15) / 16
