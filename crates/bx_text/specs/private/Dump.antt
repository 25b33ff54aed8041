-- The columns of a line of xxd's dump.
use Rattle.std.specs.Prelude.{ℕ, ◌+◌, ◌-◌, ◌*◌, ◌/◌, Bool, false, List, length, slice_index}
use Rattle.bx_text.specs.Field.{laid_out}
use Rattle.bx_text.specs.Dump.{pair_of, dump_line}

-- how wide the hex field is for lines of `cols` bytes in groups of `group`
abbrev pub hex_width : ℕ → ℕ → ℕ
hex_width cols group = 2 * cols + (cols + group - 1) / group

-- where the digits of byte i stand: one space after each group
abbrev pub hex_place : ℕ → ℕ → ℕ
hex_place group i = 2 * i + i / group

-- the bytes in hexadecimal, each at its place
abbrev pub hex_columns : Bool → ℕ → List ℕ → ℕ → List ℕ
hex_columns upper group bytes width = laid_out (hex_place group) (λ i. pair_of upper (slice_index bytes i)) (length bytes) width

-- xxd's line by default
abbrev pub default_line : ℕ → List ℕ → List ℕ
default_line at bytes = dump_line false 16 2 at bytes
