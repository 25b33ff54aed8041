-- A name as C has it.
use Rattle.std.specs.Prelude.{ℕ, if◌then◌else◌, List, [], ◌++◌, map, slice_index, codes, false}
use Rattle.std.specs.Char.{is_ascii_alphanumeric, is_ascii_digit}
use Rattle.std.specs.Fmt.{digits}

-- a name as C has it: with `_` for what is no letter and no digit, and with two in front where it begins with a digit
abbrev pub c_name : List ℕ → List ℕ
c_name name = (if is_ascii_digit (slice_index name 0) then codes "__" else []) ++ map (λ b. if is_ascii_alphanumeric b then b else 95) name

-- what stands in front of a name
abbrev pub name_front : List ℕ → List ℕ
name_front name = if is_ascii_digit (slice_index name 0) then codes "__" else []

-- what stands for a byte of a name
abbrev pub name_byte : ℕ → ℕ
name_byte b = if is_ascii_alphanumeric b then b else 95

-- what a declaration begins with
abbrev pub include_head : List ℕ → List ℕ
include_head name = codes "unsigned char " ++ c_name name ++ codes "[] = {\n"

-- the end of the array, and its length under the name
abbrev pub include_tail : List ℕ → ℕ → List ℕ
include_tail name n = codes "};\nunsigned int " ++ c_name name ++ codes "_len = " ++ (digits 10 false n ++ codes ";\n")
