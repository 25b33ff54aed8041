-- Which bytes print, four at once.
use Rattle.std.specs.Prelude.{ℕ, ◌+◌, ◌==◌, Bool, ◌&&◌, if◌then◌else◌, List, slice_index}
use Rattle.std.specs.Int.{w64, trailing_zeros}
use Rattle.bx_text.specs.Ascii.{is_printable}

-- whether the four bytes from a place on all print
abbrev pub four_print : List ℕ → ℕ → Bool
four_print x k = is_printable (slice_index x k)
    && (is_printable (slice_index x (k + 1)) && (is_printable (slice_index x (k + 2)) && is_printable (slice_index x (k + 3))))

-- the place of the lowest bit that is set, or n
abbrev pub first_set : ℕ → ℕ → ℕ
first_set mask n = if mask == 0 then n else trailing_zeros w64 mask
