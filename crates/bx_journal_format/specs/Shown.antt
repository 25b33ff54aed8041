-- How much of a text is read, where a loss of power may have left zeros in it.
use Rattle.std.specs.Prelude.{ℕ, ◌==◌, ◌&&◌, ◌||◌, Bool, true, false, List, [], ◌∷◌, length, drop, not, codes, if◌then◌else◌}
use Rattle.std.specs.List.{list_all}
use Rattle.bx_text.specs.Ascii.{is_printable}

-- what stands before the first zero
unfoldable pub before_zero : List ℕ → List ℕ
before_zero [] = []
before_zero (b ∷ text) = if b == 0 then [] else b ∷ before_zero text

-- the first zero, and what stands behind it
abbrev pub from_zero : List ℕ → List ℕ
from_zero text = drop (length (before_zero text)) text

-- whether a text begins with these bytes
unfoldable pub begins_with : List ℕ → List ℕ → Bool
begins_with [] text = true
begins_with (a ∷ front) [] = false
begins_with (a ∷ front) (b ∷ text) = b == a && begins_with front text

-- whether a newline comes before any zero
unfoldable pub ends_line : List ℕ → Bool
ends_line [] = false
ends_line (b ∷ text) = if b == 10 then true else if b == 0 then false else ends_line text

-- whether behind a newline stands a whole line that begins with `done` and has no zero
unfoldable pub has_end : List ℕ → Bool
has_end [] = false
has_end (b ∷ text) = (b == 10 && begins_with (codes "done") text && ends_line text) || has_end text

-- a newline, or a byte that prints
abbrev pub is_text_byte : ℕ → Bool
is_text_byte b = b == 10 || is_printable b

-- and such a byte, or the zero that a loss of power left in its place
abbrev pub is_left : ℕ → Bool
is_left b = b == 0 || is_text_byte b

-- whether a text has its first byte, which is on the disk before any other, or no byte behind it
unfoldable pub is_begun : List ℕ → Bool
is_begun [] = true
is_begun (b ∷ []) = true
is_begun (b ∷ c ∷ text) = not (b == 0)

-- whether a loss of power may have left these bytes behind those of a text: they are those of a text or zeros, and no entry ends in them
abbrev pub is_lost : List ℕ → Bool
is_lost rest = list_all is_left rest && not (has_end rest)

-- the text that is read: up to its first zero, unless no loss of power left it so
abbrev pub shown : List ℕ → List ℕ
shown text = if is_begun text && is_lost (from_zero text) then before_zero text else text
