-- The printable runs of an input, and the text of strings (POSIX strings).
use Rattle.std.specs.Prelude.{ℕ, ◌^◌, zero, suc, ◌+◌, Bool, false, ◌&&◌, not, nat_le, if◌then◌else◌, List, [], ◌++◌, length, take, drop, slice_index, codes, None}
use Rattle.std.specs.List.{flat_map, range_with_len, prefix_len}
use Rattle.bx_text.specs.Ascii.{is_printable}
use Rattle.bx_dump_columns.specs.Places.{place_text}
use Rattle.bx_dump.specs.Encodings.{char_lines}
use Rattle.bx_dump.specs.Pages.{Dump}
use Rattle.bx_dump.specs.declared.strings.options.Encoding.{Encoding}
use Rattle.bx_dump.specs.declared.strings.options.Encoding.TheVariants.{SevenBits}
use Rattle.bx_dump.specs.declared.strings.options.StringsOptions.{StringsOptions}
use Rattle.bx_dump_columns.specs.declared.od.options.Address.{Address}

-- Whether a printable run begins at a place: its byte prints, and the one before doesn't. `before` is whether the byte in front of x prints
abbrev pub is_run_start : Bool → List ℕ → ℕ → Bool
is_run_start before x zero = is_printable (slice_index x 0) && not before
is_run_start before x (suc a) = is_printable (slice_index x (suc a)) && not (is_printable (slice_index x a))

-- the line of a run, where one of at least `least` bytes begins at place a: it goes up to the next byte that doesn't print, or
-- up to the end
abbrev pub line_at : ℕ → Address → Bool → ℕ → List ℕ → ℕ → List ℕ
line_at least offsets before first x a = let run = take (prefix_len is_printable (drop a x)) (drop a x) in
    if is_run_start before x a && nat_le least (length run) then place_text offsets (first + a) ++ (run ++ codes "\n") else []

-- all maximal runs of at least `least` printable bytes, by rising place, each on a line
abbrev pub strings_text : ℕ → Address → List ℕ → List ℕ
strings_text least offsets x = flat_map (line_at least offsets false 0 x) (range_with_len 0 (length x))

-- the runs of an encoding's characters
abbrev pub encoded_text : Encoding → ℕ → Address → List ℕ → List ℕ
encoded_text SevenBits least offsets x = strings_text least offsets x
encoded_text e least offsets x = char_lines e least offsets 0 0 x

-- the dump that the options ask for
abbrev pub strings_of : StringsOptions → Dump
strings_of o = record { text = encoded_text o.encoding o.least o.offsets; skip = 0; limit = None; held = 2 ^ 7 }
