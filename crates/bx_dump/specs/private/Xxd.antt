-- The columns of xxd.
use Rattle.std.specs.Prelude.{ℕ, ◌+◌, ◌-◌, ◌*◌, ◌/◌, false, List, ◌++◌, map, length, take, slice_index, codes}
use Rattle.bx_text.specs.Field.{hex_text, laid_out}
use Rattle.bx_text.specs.Dump.{shown_byte, pair_of}
use Rattle.bx_dump_columns.specs.Cells.{bits_of}
use Rattle.bx_dump_columns.specs.Lines.{in_lines}
use Rattle.bx_dump_columns.specs.Words.{decimal_at}
use Rattle.bx_dump.specs.Xxd.{behind_address}
use Rattle.bx_dump.specs.declared.xxd.columns.Digits.{Digits}
use Rattle.bx_dump.specs.declared.xxd.columns.Digits.TheVariants.{Hexadecimal, Binary}

-- a byte in two hexadecimal or eight binary digits
abbrev pub cell_of : Digits → ℕ → List ℕ
cell_of (Hexadecimal upper) b = pair_of upper b
cell_of Binary b = bits_of b

-- how many digits that are
abbrev pub cell_width : Digits → ℕ
cell_width (Hexadecimal upper) = 2
cell_width Binary = 8

-- A line of either kind: the address, the digits of the bytes, one space after each group, in a field for `cols` bytes, and
-- the bytes as text.
abbrev pub columns_line : Digits → ℕ → ℕ → ℕ → List ℕ → List ℕ
columns_line digits cols group at bytes =
    hex_text false 8 at ++ codes ": "
    ++ laid_out (λ i. cell_width digits * i + i / group) (λ i. cell_of digits (slice_index bytes i)) (length bytes)
    (cell_width digits * cols + (cols + group - 1) / group)
    ++ codes " " ++ map shown_byte bytes ++ codes "\n"

-- where the digits of byte i stand: one space after each group
abbrev pub columns_place : ℕ → ℕ → ℕ → ℕ
columns_place width group i = width * i + i / group

-- how wide the field is for lines of `cols` bytes
abbrev pub columns_width : ℕ → ℕ → ℕ → ℕ
columns_width width cols group = width * cols + (cols + group - 1) / group

-- the digits of the bytes, each at its place
abbrev pub columns : Digits → ℕ → List ℕ → ℕ → List ℕ
columns digits group bytes width = laid_out (columns_place (cell_width digits) group) (λ i. cell_of digits (slice_index bytes i)) (length bytes) width

-- the first n lines of some bytes
abbrev pub columns_lines : Digits → ℕ → ℕ → ℕ → List ℕ → ℕ → List ℕ
columns_lines digits cols group at bytes n = in_lines (columns_line digits cols group) cols at (take (cols * n) bytes)

-- the digits of the bytes in a field for `cols` bytes
abbrev pub laid_columns : Digits → ℕ → ℕ → List ℕ → List ℕ
laid_columns digits cols group bytes = columns digits group bytes (columns_width (cell_width digits) cols group)

-- a line with these columns, whose address is decimal
abbrev pub decimal_line : Digits → ℕ → ℕ → ℕ → List ℕ → List ℕ
decimal_line digits cols group at bytes = decimal_at at ++ behind_address (laid_columns digits cols group bytes) bytes
