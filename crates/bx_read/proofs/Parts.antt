-- Definitions that proofs alone name.
use Rattle.bx_read.specs.Plain.{bad_line, digit_line, hex_bytes, is_space}
use Rattle.bx_read.specs.declared.fault.ReadFault.{ReadFault}
use Rattle.bx_read.specs.declared.fault.ReadFault.TheVariants.{AddressTooLarge, BadPair, OddDigits, TooWide}
use Rattle.std.specs.List.{onto_first}
use Rattle.std.specs.Option.{option_map_or}
use Rattle.std.specs.Prelude.{All, Err, List, Ok, Option, Result, filter, if◌then◌else◌, length, nat_le, nat_lt, not, ok_or, ℕ, ◌<◌, ◌^◌, ◌≤◌}

-- a text without its white space
abbrev pub without_space : List ℕ → List ℕ
without_space text = filter (λ c. not (is_space c)) text

-- The bytes of a plain text.
abbrev pub plain_bytes : List ℕ → Option (List ℕ)
plain_bytes text = hex_bytes (without_space text)

-- what is at fault in a text that isn't plain hexadecimal
abbrev pub plain_fault : List ℕ → Option ℕ → ReadFault
plain_fault text bad = option_map_or (λ line. BadPair line) bad (OddDigits (digit_line 1 1 text))

-- the bytes, or the fault where there are none
abbrev pub bytes_or_fault : List ℕ → Option (List ℕ) → Result (List ℕ) ReadFault
bytes_or_fault text bytes = ok_or bytes (plain_fault text (bad_line 1 text))

-- a byte in front of the first line
abbrev pub with_front : ℕ → List (List ℕ) → List (List ℕ)
with_front c lines = onto_first c lines

-- a piece of a dump: 1 to 256 bytes at an address below 2 ^ 62
abbrev pub IsPiece : ℕ → List ℕ → Type 0
IsPiece at bytes = (0 < length bytes) × (length bytes ≤ 256) × (at < 2 ^ 62) × All (λ b. b < 256) bytes

-- what is read of the text of the pairs, by how many there are
abbrev pub read_pairs : ℕ → ℕ → List ℕ → Option ℕ → Result (ℕ × List ℕ) ReadFault
read_pairs line at hex pairs = option_map_or
    (λ n. if nat_lt 256 n then Err (TooWide line) else if nat_le (2 ^ 62) at then Err (AddressTooLarge line) else Ok (at, hex)) pairs (Err (BadPair line))
