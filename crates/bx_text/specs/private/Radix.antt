-- How the digits of a number are written.
use Rattle.std.specs.Prelude.{ℕ, Bool, false}
use Rattle.bx_text.specs.declared.number.field.Radix.{Radix}
use Rattle.bx_text.specs.declared.number.field.Radix.TheVariants.{Octal, Decimal, Hexadecimal}

-- the base
abbrev pub base_of : Radix → ℕ
base_of Octal = 8
base_of Decimal = 10
base_of (Hexadecimal upper) = 16

-- whether the digits above 9 are capital letters
abbrev pub is_upper : Radix → Bool
is_upper Octal = false
is_upper Decimal = false
is_upper (Hexadecimal upper) = upper
