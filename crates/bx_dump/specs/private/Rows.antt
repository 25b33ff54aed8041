-- Lines of plain digits, and the items of a C array.
use Rattle.std.specs.Prelude.{ℕ, ◌==◌, Bool, false, if◌then◌else◌, List, ◌++◌, codes}
use Rattle.std.specs.List.{flat_map, join_by}
use Rattle.bx_text.specs.Dump.{pair_of}
use Rattle.bx_dump.specs.Laws.{item}

-- the digits of each byte
abbrev pub plain_line : Bool → ℕ → List ℕ → List ℕ
plain_line upper at bytes = flat_map (pair_of upper) bytes ++ codes "\n"

-- The bytes of a line as items of a C array, a comma between two, and what stands in front of the line: a comma and a newline end
-- the line before, which the first line has not.
abbrev pub include_line : ℕ → List ℕ → List ℕ
include_line at bytes = (if at == 0 then codes "  " else codes ",\n  ") ++ join_by (λ b. codes "0x" ++ pair_of false b) (codes ", ") bytes

-- an item that follows another on its line
abbrev pub next_item : ℕ → List ℕ
next_item b = codes ", " ++ item b
