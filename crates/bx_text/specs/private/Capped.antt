-- Numbers that stop at the greatest one of 64 bits.
use Rattle.std.specs.Prelude.{ℕ, ◌-◌, ◌^◌, min, Option}
use Rattle.std.specs.Option.{option_map}

abbrev pub capped : ℕ → ℕ
capped n = min n (2 ^ 64 - 1)

abbrev pub capped_value : Option ℕ → Option ℕ
capped_value n = option_map capped n
