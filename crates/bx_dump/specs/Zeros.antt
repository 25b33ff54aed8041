-- Lines of zeros: a row of three and more is shown as its first line and a star (xxd -a, "autoskip").
use Rattle.std.specs.Prelude.{ℕ, zero, suc, ◌+◌, ◌-◌, ◌*◌, ◌/◌, nat_lt, Bool, false, ◌&&◌, if◌then◌else◌, List, length, replicate, bytes_eq}
use Rattle.std.specs.List.{flat_map, range_with_len}
use Rattle.bx_text.specs.Fold.{shown_text}
use Rattle.bx_text.specs.declared.line.fold.Show.{Show}
use Rattle.bx_text.specs.declared.line.fold.Show.TheVariants.{Line, Star, Nothing}
use Rattle.bx_dump.specs.FoldBy.{line_bytes_by}

-- whether all bytes are zeros
abbrev pub all_zeros : List ℕ → Bool
all_zeros bytes = bytes_eq bytes (replicate (length bytes) 0)

-- whether line k is one of zeros that another line stands behind: the last line is always shown
abbrev pub is_skippable : ℕ → List ℕ → ℕ → Bool
is_skippable n bytes k = nat_lt (n * (k + 1)) (length bytes) && all_zeros (line_bytes_by n bytes k)

-- whether the line before line k is one
abbrev pub follows_skippable : ℕ → List ℕ → ℕ → Bool
follows_skippable n bytes zero = false
follows_skippable n bytes (suc k) = is_skippable n bytes k

-- What stands for line k. Of a row of such lines the first is shown. For the second stands a star if a third comes, and
-- nothing for those behind it; if none comes, it is shown too.
abbrev pub show_zeros : ℕ → List ℕ → ℕ → Show
show_zeros n bytes zero = Line
show_zeros n bytes (suc k) = if is_skippable n bytes (suc k) && is_skippable n bytes k
    then (if follows_skippable n bytes k then Nothing else if is_skippable n bytes (suc (suc k)) then Star else Line) else Line

-- the text for line k, where line 0 is for address `at`
abbrev pub zeros_line : (ℕ → List ℕ → List ℕ) → ℕ → ℕ → List ℕ → ℕ → List ℕ
zeros_line line n at bytes k = shown_text (show_zeros n bytes k) (line (at + n * k) (line_bytes_by n bytes k))

-- A dump: what stands for each line of n bytes, the last perhaps of fewer.
abbrev pub zeros_skipped : (ℕ → List ℕ → List ℕ) → ℕ → ℕ → List ℕ → List ℕ
zeros_skipped line n at bytes = flat_map (zeros_line line n at bytes) (range_with_len 0 ((length bytes + n - 1) / n))
