-- The columns of hexdump -C.
use Rattle.std.specs.Prelude.{ℕ, ◌+◌, ◌*◌, ◌/◌, false, List, length, slice_index}
use Rattle.bx_text.specs.Field.{laid_out}
use Rattle.bx_text.specs.Dump.{pair_of}

-- where the digits of byte i stand: one space after each, and one more after the eighth
abbrev pub canon_place : ℕ → ℕ
canon_place i = 3 * i + i / 8

-- the bytes in hexadecimal, in a field of 50 characters
abbrev pub canon_columns : List ℕ → ℕ → List ℕ
canon_columns bytes width = laid_out canon_place (λ i. pair_of false (slice_index bytes i)) (length bytes) width
