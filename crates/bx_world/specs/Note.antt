-- Which text a note may take the place of.
use Rattle.std.specs.Prelude.{ℕ, Bool, ◌==◌, ◌||◌, ◌&&◌, not, nat_le, List, length, drop, codes, replicate}
use Rattle.std.specs.List.{list_all, starts_with}

-- a byte that stands in a note: a digit, a space, a dash or the newline, or the zero that a loss of power may leave in its place
abbrev pub is_note_byte : ℕ → Bool
is_note_byte b = (nat_le 48 b && nat_le b 57) || (nat_le 97 b && nat_le b 102) || b == 32 || b == 45 || b == 10 || b == 0

-- a text that begins with a word, behind which all are such bytes
abbrev pub is_front_behind : List ℕ → List ℕ → Bool
is_front_behind word text = starts_with (λ a b. a == b) text word && list_all is_note_byte (drop (length word) text)

-- zeros, at least one and no more than a note has
abbrev pub is_zeros : List ℕ → Bool
is_zeros text = not (length text == 0) && starts_with (λ a b. a == b) (replicate 439 0) text

-- a text whose place a note may take: no longer than a note, it has the whole first word of one, of an older version too, and behind it bytes of one, or
-- zeros
abbrev pub is_note : List ℕ → Bool
is_note text = nat_le (length text) 439 && (is_front_behind (codes "image3 ") text || is_front_behind (codes "image2 ") text
    || is_front_behind (codes "image1 ") text || is_zeros text)
