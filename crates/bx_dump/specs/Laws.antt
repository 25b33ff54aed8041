-- What the definitions say, in other words.
use Rattle.std.specs.Prelude.{◌≡◌, ℕ, ◌+◌, ◌-◌, ◌*◌, ◌/◌, ◌^◌, ◌<◌, ◌≤◌, ◌==◌, nat_lt, false, if◌then◌else◌, List, ◌++◌, length, take, drop, slice_index, sum_by, codes}
use Rattle.std.specs.List.{flat_map, join_by, range_with_len}
use Rattle.bx_text.specs.Dump.{pair_of}
use Rattle.bx_dump_columns.specs.Values.{value_of}
use Rattle.bx_dump.specs.Styles.{include_items, styled_by}
use Rattle.bx_dump.specs.Pages.{bytes_dumped}
use Rattle.bx_dump.specs.FoldBy.{line_bytes_by}
use Rattle.bx_dump.specs.Zeros.{all_zeros, show_zeros, zeros_skipped}
use Rattle.bx_dump_columns.specs.Lines.{in_lines}
use Rattle.bx_text.specs.declared.line.fold.Show.TheVariants.{Line}
use Rattle.bx_dump.specs.declared.xxd.options.XxdStyle.{XxdStyle}
use Rattle.bx_dump.specs.declared.xxd.options.XxdOptions.{XxdOptions}

-- The value of bytes is the sum of each byte times 256 to the power of its place.
abbrev pub ValueIsSum : Type 0
ValueIsSum = (bytes : List ℕ) → value_of bytes ≡ sum_by (λ i. slice_index bytes i * 256 ^ i) (range_with_len 0 (length bytes))

-- a byte as an item of a C array
abbrev pub item : ℕ → List ℕ
item b = codes "0x" ++ pair_of false b

-- the items of a line, a comma between two
abbrev pub items : List ℕ → List ℕ
items bytes = join_by item (codes ", ") bytes

-- item i of a line: a comma and a space stand in front of each but the first
abbrev pub item_at : List ℕ → ℕ → List ℕ
item_at bytes i = (if i == 0 then codes "0x" else codes ", 0x") ++ pair_of false (slice_index bytes i)

-- The items of a line are those of its bytes, in order.
abbrev pub ItemsAreBytes : Type 0
ItemsAreBytes = (bytes : List ℕ) → items bytes ≡ flat_map (item_at bytes) (range_with_len 0 (length bytes))

-- how many lines the items of n bytes have
abbrev pub item_lines : ℕ → ℕ → ℕ
item_lines cols n = (n + cols - 1) / cols

-- line k of the items: each but the last ends in a comma
abbrev pub array_line : ℕ → List ℕ → ℕ → List ℕ
array_line cols bytes k =
    codes "  " ++ (items (take cols (drop (cols * k) bytes)) ++ (if nat_lt (k + 1) (item_lines cols (length bytes)) then codes ",\n" else codes "\n"))

-- The items of a C array are its lines, one for each `cols` bytes, and each but the last ends in a comma.
abbrev pub ItemsAreLines : Type 0
ItemsAreLines = (cols : ℕ) (bytes : List ℕ) → 0 < cols →
    include_items cols bytes ≡ flat_map (array_line cols bytes) (range_with_len 0 (item_lines cols (length bytes)))

-- xxd's text of an input, with all its lines
abbrev pub xxd_text : XxdStyle → XxdOptions → List ℕ → List ℕ
xxd_text style o input = styled_by false style o (bytes_dumped o.seek o.limit input)

-- Where no line is one of zeros, none is left out.
abbrev pub PlainWithoutZeros : Type 0
PlainWithoutZeros = (line : ℕ → List ℕ → List ℕ) (cols at : ℕ) (bytes : List ℕ) → ((k : ℕ) → all_zeros (line_bytes_by cols bytes k) ≡ false) →
    zeros_skipped line cols at bytes ≡ in_lines line cols at bytes

-- The first line is shown, and so is the last one.
abbrev pub EndsAreShown : Type 0
EndsAreShown = (cols k : ℕ) (bytes : List ℕ) → (show_zeros cols bytes 0 ≡ Line) × (length bytes ≤ cols * (k + 1) → show_zeros cols bytes k ≡ Line)
