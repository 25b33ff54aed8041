-- Lines of xxd: in binary, with addresses in decimal, and of little-endian numbers.
use Rattle.std.specs.Prelude.{ℕ, ◌+◌, ◌-◌, ◌*◌, ◌/◌, Bool, false, if◌then◌else◌, List, ◌++◌, map, length, slice_index, codes}
use Rattle.bx_text.specs.Field.{hex_text, laid_out}
use Rattle.bx_text.specs.Dump.{pair_of, shown_byte}
use Rattle.bx_dump_columns.specs.Cells.{bits_of}
use Rattle.bx_dump_columns.specs.Words.{decimal_at, words_text}

-- A line in binary: the address, the digits of the bytes, one space after each group, in a field for `cols` bytes, and the bytes as text.
abbrev pub bits_line : ℕ → ℕ → ℕ → List ℕ → List ℕ
bits_line cols group at bytes = hex_text false 8 at ++ codes ": " ++ laid_out (λ i. 8 * i + i / group) (λ i. bits_of (slice_index bytes i)) (length bytes)
    (8 * cols + (cols + group - 1) / group) ++ codes " " ++ map shown_byte bytes ++ codes "\n"

-- what stands behind the address of a line: its columns, and the bytes as text
abbrev pub behind_address : List ℕ → List ℕ → List ℕ
behind_address columns bytes = codes ": " ++ columns ++ codes " " ++ map shown_byte bytes ++ codes "\n"

-- the digits of a line in hexadecimal: one space after each group, in a field for `cols` bytes
abbrev pub byte_columns : Bool → ℕ → ℕ → List ℕ → List ℕ
byte_columns upper cols group bytes = laid_out (λ i. 2 * i + i / group) (λ i. pair_of upper (slice_index bytes i)) (length bytes)
    (2 * cols + (cols + group - 1) / group)

-- the same in binary
abbrev pub bits_columns : ℕ → ℕ → List ℕ → List ℕ
bits_columns cols group bytes = laid_out (λ i. 8 * i + i / group) (λ i. bits_of (slice_index bytes i)) (length bytes) (8 * cols + (cols + group - 1) / group)

-- an address in decimal or in hexadecimal
abbrev pub address_in : Bool → ℕ → List ℕ
address_in decimal at = if decimal then decimal_at at else hex_text false 8 at

-- A line of little-endian numbers, as many as `cols` bytes have.
abbrev pub words_line : Bool → Bool → ℕ → ℕ → ℕ → List ℕ → List ℕ
words_line decimal upper cols group at bytes = address_in decimal at ++ behind_address (words_text upper group ((cols + group - 1) / group) bytes) bytes
