-- What a number of dd looks like.
use Rattle.std.specs.Prelude.{◌≡◌, ℕ, ◌*◌, ◌<◌, false, List, [], ◌∷◌, ◌++◌, length, slice_index, All, IsTrue, Some}
use Rattle.std.specs.Char.{is_digit}
use Rattle.std.specs.Str.Parse.{digits_value}
use Rattle.bx_text.specs.SizeGrammar.{with_x}
use Rattle.bx_dd.specs.Number.{suffix_unit}

-- At least one decimal digit, all that stand in front, and what multiplies them: nothing, or a suffix.
pub record IsFactor (text : List ℕ) (n : ℕ) : Type 0 where
  pub digits : List ℕ
  pub suffix : List ℕ
  pub unit : ℕ
  pub spelled : text ≡ digits ++ suffix
  pub some : 0 < length digits
  pub are_digits : All (λ c. IsTrue (is_digit c 10)) digits
  pub ends : is_digit (slice_index suffix 0) 10 ≡ false
  pub known : suffix_unit suffix ≡ Some unit
  pub value : n ≡ digits_value 10 digits * unit

-- Each text is a factor, and the number is their product.
abbrev pub HaveProduct : List (List ℕ) → ℕ → Type 0
HaveProduct [] n = n ≡ 1
HaveProduct (text ∷ texts) n = (factor : ℕ) × (rest : ℕ) × IsFactor text factor × HaveProduct texts rest × (n ≡ factor * rest)

-- One factor, or more with the letter x between two.
abbrev pub IsNumberOf : List ℕ → ℕ → Type 0
IsNumberOf text n = (first : List ℕ) × (more : List (List ℕ)) × (text ≡ with_x first more) × HaveProduct (first ∷ more) n
