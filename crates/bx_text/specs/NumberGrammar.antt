-- What a number looks like whose base its first characters say.
use Rattle.std.specs.Prelude.{◌≡◌, ◌≢◌, ◌⊎◌, ◌↔◌, ℕ, ◌*◌, ◌≤◌, false, List, ◌∷◌, ◌++◌, length, slice_index, All, IsTrue, Some}
use Rattle.std.specs.Char.{is_digit}
use Rattle.std.specs.Str.Parse.{digits_value}
use Rattle.bx_text.specs.declared.number.size.SizeStyle.{SizeStyle}
use Rattle.bx_text.specs.Number.{units_of, prefixed}

-- At least this many digits of a base, all that stand in front, and what multiplies them: nothing, or a suffix of the style.
pub record IsAmount (style : SizeStyle) (base least : ℕ) (text : List ℕ) (n : ℕ) : Type 0 where
  pub digits : List ℕ
  pub suffix : List ℕ
  pub unit : ℕ
  pub spelled : text ≡ digits ++ suffix
  pub some : least ≤ length digits
  pub are_digits : All (λ c. IsTrue (is_digit c base)) digits
  pub ends : is_digit (slice_index suffix 0) base ≡ false
  pub known : units_of style suffix ≡ Some unit
  pub value : n ≡ digits_value base digits * unit

-- Decimal, where it doesn't begin with 0
abbrev pub IsDecimal : SizeStyle → List ℕ → ℕ → Type 0
IsDecimal style text n = (slice_index text 0 ≢ 48) × IsAmount style 10 1 text n

-- Hexadecimal behind 0x or 0X
abbrev pub IsHexadecimal : SizeStyle → List ℕ → ℕ → Type 0
IsHexadecimal style text n = (x : ℕ) × (rest : List ℕ) × (text ≡ 48 ∷ x ∷ rest) × ((x ≡ 120) ⊎ (x ≡ 88)) × IsAmount style 16 1 rest n

-- Octal behind another 0, and perhaps no digit
abbrev pub IsOctal : SizeStyle → List ℕ → ℕ → Type 0
IsOctal style text n = (rest : List ℕ) × (text ≡ 48 ∷ rest) × (slice_index rest 0 ≢ 120) × (slice_index rest 0 ≢ 88) × IsAmount style 8 0 rest n

-- A text reads as a number exactly where it is one of the three forms.
abbrev pub NumberHasForm : Type 0
NumberHasForm = (style : SizeStyle) (text : List ℕ) (n : ℕ) →
    prefixed style text ≡ Some n ↔ (IsDecimal style text n ⊎ (IsHexadecimal style text n ⊎ IsOctal style text n))
