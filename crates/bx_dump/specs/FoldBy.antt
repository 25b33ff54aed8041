-- Lines of n bytes; those that repeat the line before are folded.
use Rattle.std.specs.Prelude.{ℕ, zero, suc, pred, ◌+◌, ◌-◌, ◌*◌, ◌/◌, Bool, false, if◌then◌else◌, List, length, take, drop, bytes_eq}
use Rattle.std.specs.List.{flat_map, range_with_len}
use Rattle.bx_text.specs.Fold.{shown_text}
use Rattle.bx_text.specs.declared.line.fold.Show.{Show}
use Rattle.bx_text.specs.declared.line.fold.Show.TheVariants.{Line, Star, Nothing}

-- the bytes of line k: n, or fewer on the last
abbrev pub line_bytes_by : ℕ → List ℕ → ℕ → List ℕ
line_bytes_by n bytes k = take n (drop (n * k) bytes)

-- whether line k has the bytes of the line before
abbrev pub is_hidden_by : ℕ → List ℕ → ℕ → Bool
is_hidden_by n bytes zero = false
is_hidden_by n bytes (suc k) = bytes_eq (line_bytes_by n bytes (suc k)) (line_bytes_by n bytes k)

-- what stands for line k: a star for the first hidden one of a row, and nothing for the others
abbrev pub show_by : ℕ → List ℕ → ℕ → Show
show_by n bytes k = if is_hidden_by n bytes k then (if is_hidden_by n bytes (pred k) then Nothing else Star) else Line

-- the text for line k, where `all` folds none
abbrev pub line_text_by : ℕ → (ℕ → List ℕ → List ℕ) → Bool → ℕ → List ℕ → ℕ → List ℕ
line_text_by n line all at bytes k = shown_text (if all then Line else show_by n bytes k) (line (at + n * k) (line_bytes_by n bytes k))

-- A dump: a line for each n bytes, the last perhaps for fewer; line 0 is for address `at`.
abbrev pub folded_by : ℕ → (ℕ → List ℕ → List ℕ) → Bool → ℕ → List ℕ → List ℕ
folded_by n line all at bytes = flat_map (line_text_by n line all at bytes) (range_with_len 0 ((length bytes + (n - 1)) / n))
