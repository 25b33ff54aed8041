-- How a line of a dump is read.
use Rattle.std.specs.Prelude.{ℕ, ◌+◌, ◌^◌, ◌==◌, ◌||◌, not, nat_lt, nat_le, if◌then◌else◌, List, length, take, drop, slice_index, Option, Result, Ok, Err}
use Rattle.std.specs.List.{prefix_len}
use Rattle.std.specs.Option.{option_map, option_map_or, option_and_then}
use Rattle.std.specs.Result.{result_ok}
use Rattle.std.specs.Str.Parse.{digits_value}
use Rattle.bx_read.specs.Digits.{is_hex, pairs_of, data_of}
use Rattle.bx_read.specs.declared.fault.ReadFault.{ReadFault}
use Rattle.bx_read.specs.declared.fault.ReadFault.TheVariants.{BadAddress, MissingColon, BadPair, NoData, TooWide, AddressTooLarge}

-- What is read after the colon.
abbrev pub read_data : ℕ → ℕ → List ℕ → Result (ℕ × List ℕ) ReadFault
read_data line at text = if length text == 0 then Err (NoData line) else if not (slice_index text 0 == 32) then Err (BadPair line) else
    if length text == 1 || slice_index text 1 == 32 then Err (NoData line) else let hex = data_of (drop 1 text) in option_map_or (λ count.
    if nat_lt 256 count then Err (TooWide line) else if nat_le (2 ^ 62) at then Err (AddressTooLarge line) else Ok (at, hex))
    (option_map length (pairs_of hex)) (Err (BadPair line))

-- The address and the text of the pairs of a line, or the first fault in it.
abbrev pub read_line : ℕ → List ℕ → Result (ℕ × List ℕ) ReadFault
read_line line text = let count = prefix_len is_hex text in
    if count == 0 || nat_lt 16 count then Err (BadAddress line) else if not (slice_index text count == 58) then Err (MissingColon line)
    else read_data line (digits_value 16 (take count text)) (drop (count + 1) text)

-- The address and the bytes of a line, or none where it has a fault.
abbrev pub line_piece : List ℕ → Option (ℕ × List ℕ)
line_piece text = option_and_then (λ read. option_map (λ bytes. (read.0, bytes)) (pairs_of read.1)) (result_ok (read_line 1 text))
