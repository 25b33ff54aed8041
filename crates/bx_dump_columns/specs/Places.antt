-- The digits of an address, and the place of a run.
use Rattle.std.specs.Prelude.{ℕ, false, List, [], ◌++◌, codes, Option, None, Some}
use Rattle.std.specs.Fmt.{digits}
use Rattle.std.specs.Option.{option_map_or}
use Rattle.bx_dump_columns.specs.declared.od.options.Address.{Address}
use Rattle.bx_dump_columns.specs.declared.od.options.Address.TheVariants.{Octal, Decimal, Hexadecimal, Without}

-- the base of an address and its least digits
abbrev pub digits_of : Address → Option (ℕ × ℕ)
digits_of Octal = Some (8, 7)
digits_of Decimal = Some (10, 7)
digits_of Hexadecimal = Some (16, 6)
digits_of Without = None

-- the place of a run, and a space
abbrev pub place_text : Address → ℕ → List ℕ
place_text offsets at = option_map_or (λ d. digits d.0 false at ++ codes " ") (digits_of offsets) []

-- the most text that a byte can stand for, its share of a place and of a newline included
abbrev pub cost_of : Address → ℕ
cost_of Octal = 26
cost_of Decimal = 26
cost_of Hexadecimal = 26
cost_of Without = 2
