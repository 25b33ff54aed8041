-- The text of xxd in each style.
use Rattle.std.specs.Prelude.{ℕ, ◌+◌, ◌^◌, ◌≤◌, ◌==◌, Bool, true, false, if◌then◌else◌, List, [], ◌∷◌, ◌++◌, length, codes, None, Some}
use Rattle.std.specs.Fmt.{digits}
use Rattle.std.specs.List.{flat_map, join_by}
use Rattle.bx_text.specs.Dump.{dump_line, pair_of}
use Rattle.bx_dump_columns.specs.Lines.{in_lines}
use Rattle.bx_dump.specs.Zeros.{zeros_skipped}
use Rattle.bx_dump.specs.Pages.{Dump}
use Rattle.bx_dump.specs.Xxd.{behind_address, bits_columns, bits_line, byte_columns, words_line}
use Rattle.bx_dump_columns.specs.Words.{decimal_at}
use Rattle.bx_dump.specs.declared.xxd.options.XxdStyle.{XxdStyle}
use Rattle.bx_dump.specs.declared.xxd.options.XxdStyle.TheVariants.{Normal, Plain, Bits, Include, Unbroken, Decimal, Words}
use Rattle.bx_dump.specs.declared.xxd.options.XxdOptions.{XxdOptions}
use Rattle.bx_dump_columns.specs.Names.{c_name}

-- All items: in a line there is a comma between two. Behind each line stand a comma and a newline, and behind the last a newline alone;
-- nothing where there is no byte.
abbrev pub include_items : ℕ → List ℕ → List ℕ
include_items cols [] = []
include_items cols (b ∷ bs) = in_lines (λ at line. (if at == 0 then codes "  " else codes ",\n  ")
    ++ join_by (λ byte. codes "0x" ++ pair_of false byte) (codes ", ") line) cols 0 (b ∷ bs) ++ codes "\n"

-- bytes a group, where 0 stands for all of a line
abbrev pub group_of : ℕ → ℕ → ℕ
group_of cols group = if group == 0 then cols else group

-- Lines of a form, or those of them that are shown where rows of zeros are left out.
abbrev pub lines_by : Bool → (ℕ → List ℕ → List ℕ) → ℕ → ℕ → List ℕ → List ℕ
lines_by false line cols at bytes = in_lines line cols at bytes
lines_by true line cols at bytes = zeros_skipped line cols at bytes

-- The text of the bytes of a part; the address of a line begins where the part does. Rows of zeros are left out of lines with
-- addresses alone. A name stands in a whole declaration: its head, the items, the end of the array, and its length under the name.
abbrev pub styled_by : Bool → XxdStyle → XxdOptions → List ℕ → List ℕ
styled_by skips Normal o bytes = lines_by skips (dump_line o.upper o.cols (group_of o.cols o.group)) o.cols (o.seek + o.shift) bytes
styled_by skips Bits o bytes = lines_by skips (bits_line o.cols (group_of o.cols o.group)) o.cols (o.seek + o.shift) bytes
styled_by skips Plain o bytes = in_lines (λ at line. flat_map (pair_of o.upper) line ++ codes "\n") o.cols 0 bytes
styled_by skips (Decimal false) o bytes = lines_by skips
    (λ at line. decimal_at at ++ behind_address (byte_columns o.upper o.cols (group_of o.cols o.group) line) line) o.cols (o.seek + o.shift) bytes
styled_by skips (Decimal true) o bytes = lines_by skips
    (λ at line. decimal_at at ++ behind_address (bits_columns o.cols (group_of o.cols o.group) line) line) o.cols (o.seek + o.shift) bytes
styled_by skips (Words decimal) o bytes = lines_by skips (words_line decimal o.upper o.cols (group_of o.cols o.group)) o.cols (o.seek + o.shift) bytes
styled_by skips Unbroken o bytes = flat_map (pair_of o.upper) bytes ++ codes "\n"
styled_by skips (Include None) o bytes = include_items o.cols bytes
styled_by skips (Include (Some name)) o bytes = (codes "unsigned char " ++ c_name name.now ++ codes "[] = {\n") ++ include_items o.cols bytes
    ++ (codes "};\nunsigned int " ++ c_name name.now ++ codes "_len = " ++ (digits 10 false (length bytes) ++ codes ";\n"))

-- the text that style and options ask for
abbrev pub styled : XxdStyle → XxdOptions → List ℕ → List ℕ
styled style o bytes = styled_by o.autoskip style o bytes

-- how much of the text may wait: where rows of zeros are left out, two lines of at most 2^12 characters each
abbrev pub kept_by : Bool → ℕ
kept_by skips = if skips then 2 ^ 13 else 2 ^ 7

-- the same of a style
abbrev pub held_of : XxdStyle → XxdOptions → ℕ
held_of Plain o = 2 ^ 7
held_of Unbroken o = 2 ^ 7
held_of (Include name) o = 2 ^ 7
held_of style o = kept_by o.autoskip

-- the dump that style and options ask for
abbrev pub xxd_of : XxdStyle → XxdOptions → Dump
xxd_of style o = record { text = styled style o; skip = o.seek; limit = o.limit; held = held_of style o }

-- a name is not longer than a count of 64 bits can say
abbrev pub IsCountable : XxdStyle → Type 0
IsCountable (Include (Some name)) = length name.now ≤ 2 ^ 62
IsCountable style = Unit {0}
