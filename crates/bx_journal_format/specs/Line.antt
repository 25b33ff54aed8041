-- The lines of a journal, without their newlines.
use Rattle.std.specs.Prelude.{ℕ, ◌+◌, ◌&&◌, nat_le, Option, None, Some, List, ◌++◌, length, take, drop, if◌then◌else◌, codes}
use Rattle.std.specs.Option.{option_and_then, option_map}
use Rattle.std.specs.Str.{bytes_eq}
use Rattle.bx_image.specs.declared.change.TheConstants.{MAX_LEN}
use Rattle.bx_journal_format.specs.Kept.{Run}
use Rattle.bx_journal_format.specs.declared.format.version.Version.{Version}
use Rattle.bx_journal_format.specs.declared.format.version.Version.TheVariants.{First, Second}
use Rattle.bx_journal_format.specs.Hex.{hex_digits, number_of}
use Rattle.bx_journal_format.specs.DumpLine.{run_of_line}

-- how many digits a length has
abbrev pub address_width : Version → ℕ
address_width First = 8
address_width Second = 16

-- what stands before the length in the line that begins entry n
unfoldable pub start_head : Version → ℕ → List ℕ
start_head First n = codes "change " ++ hex_digits 8 n ++ codes " "
start_head Second n = codes "change2 " ++ hex_digits 8 n ++ codes " "

-- the line that begins an entry: its number, and the image's length before the change
unfoldable pub start_line : Version → ℕ → ℕ → List ℕ
start_line v n len = start_head v n ++ hex_digits (address_width v) len

-- the line after_prefix the last saved bytes
unfoldable pub save_line : ℕ → List ℕ
save_line n = codes "save " ++ hex_digits 8 n

-- the line that ends entry n; the second version's has the length after the change
unfoldable pub end_head : Version → ℕ → List ℕ
end_head First n = codes "done " ++ hex_digits 8 n
end_head Second n = codes "done2 " ++ hex_digits 8 n ++ codes " "

-- the line that ends an entry; the second form tells the image's length after_prefix the change
unfoldable pub end_line : Version → ℕ → ℕ → List ℕ
end_line First n after = end_head First n
end_line Second n after = end_head Second n ++ hex_digits 16 after

-- what follows these bytes in a line that begins with them
abbrev pub after_prefix : List ℕ → List ℕ → Option (List ℕ)
after_prefix front line = if bytes_eq (take (length front) line) front then Some (drop (length front) line) else None

-- a number that is no more than the limit
abbrev pub at_most : ℕ → Option ℕ → Option ℕ
at_most limit n = option_and_then (λ m. if nat_le m limit then Some m else None) n

-- the length in the line that begins entry n
unfoldable pub length_in : Version → ℕ → List ℕ → Option ℕ
length_in v n line = at_most MAX_LEN (option_and_then (number_of (address_width v)) (after_prefix (start_head v n) line))

-- the length after the change, where the line ends entry n; the first version has none
unfoldable pub after_in : Version → ℕ → List ℕ → Option (Option ℕ)
after_in First n line = if bytes_eq line (end_line First n 0) then Some None else None
after_in Second n line = option_map Some (at_most MAX_LEN (option_and_then (number_of 16) (after_prefix (end_head Second n) line)))

-- what a saved line gives in an entry of an image of this length
unfoldable pub saved_in : ℕ → List ℕ → Option Run
saved_in len line = option_and_then
    (λ piece. if nat_le (length piece.bytes) 16 && nat_le (piece.at + length piece.bytes) len then Some piece else None) (run_of_line line)

-- how long the line is that begins an entry
abbrev pub start_size : Version → ℕ
start_size First = 24
start_size Second = 33
