-- A whole declaration, columns of digits, and lines of plain digits.
use Rattle.std.specs.Prelude.{ℕ, ◌+◌, Bool, List, ◌++◌, length, codes}
use Rattle.std.specs.List.{flat_map}
use Rattle.bx_text.specs.Dump.{pair_of}
use Rattle.bx_dump_columns.specs.Lines.{in_lines}
use Rattle.bx_dump.specs.private.Rows.{plain_line}
use Rattle.bx_dump.specs.declared.xxd.options.XxdOptions.{XxdOptions}
use Rattle.bx_dump.specs.Styles.{group_of, include_items, lines_by}
use Rattle.bx_dump.specs.declared.xxd.columns.Digits.{Digits}
use Rattle.bx_dump.specs.private.Xxd.{columns_line, decimal_line}
use Rattle.bx_dump.specs.Xxd.{words_line}
use Rattle.bx_dump_columns.specs.Names.{include_head, include_tail}

-- a whole declaration: its head, the items, the end of the array, and its length under the name
abbrev pub named_text : List ℕ → ℕ → List ℕ → List ℕ
named_text name cols bytes = include_head name ++ include_items cols bytes ++ include_tail name (length bytes)

-- lines with columns of digits, the first at the address where the part begins
abbrev pub columns_text : Digits → XxdOptions → List ℕ → List ℕ
columns_text digits o bytes = lines_by o.autoskip (columns_line digits o.cols (group_of o.cols o.group)) o.cols (o.seek + o.shift) bytes

-- the same with addresses in decimal
abbrev pub decimal_text : Digits → XxdOptions → List ℕ → List ℕ
decimal_text digits o bytes = lines_by o.autoskip (decimal_line digits o.cols (group_of o.cols o.group)) o.cols (o.seek + o.shift) bytes

-- lines of little-endian numbers
abbrev pub numbers_text : Bool → XxdOptions → List ℕ → List ℕ
numbers_text decimal o bytes = lines_by o.autoskip (words_line decimal o.upper o.cols (group_of o.cols o.group)) o.cols (o.seek + o.shift) bytes

-- all digits on one line
abbrev pub unbroken_text : Bool → List ℕ → List ℕ
unbroken_text upper bytes = flat_map (pair_of upper) bytes ++ codes "\n"

-- lines of plain digits
abbrev pub plain_text : XxdOptions → List ℕ → List ℕ
plain_text o bytes = in_lines (plain_line o.upper) o.cols 0 bytes
