-- What a size looks like: a number whose base its first characters say, or a product.
use Rattle.std.specs.Prelude.{◌≡◌, ◌↔◌, ◌⊎◌, ℕ, ◌*◌, ◌<◌, ◌≤◌, List, [], ◌∷◌, ◌++◌, Ok, Err}
use Rattle.bx_text.specs.declared.number.size.SizeStyle.{SizeStyle}
use Rattle.bx_text.specs.declared.number.size.SizeStyle.TheVariants.{Product}
use Rattle.bx_text.specs.declared.number.size.SizeFault.TheVariants.{Bad, TooLarge}
use Rattle.bx_text.specs.Number.{greatest, read_size}
use Rattle.bx_text.specs.NumberGrammar.{IsAmount, IsDecimal, IsHexadecimal, IsOctal}

-- Texts with the letter x between two.
abbrev pub with_x : List ℕ → List (List ℕ) → List ℕ
with_x first [] = first
with_x first (second ∷ more) = first ++ 120 ∷ with_x second more

-- Each text is decimal digits and perhaps a suffix, and the number is the product of theirs.
abbrev pub AreFactors : List (List ℕ) → ℕ → Type 0
AreFactors [] n = n ≡ 1
AreFactors (text ∷ texts) n = (factor : ℕ) × (rest : ℕ) × IsAmount Product 10 1 text factor × AreFactors texts rest × (n ≡ factor * rest)

-- One factor, or more with the letter x between two.
abbrev pub IsProduct : List ℕ → ℕ → Type 0
IsProduct text n = (first : List ℕ) × (more : List (List ℕ)) × (text ≡ with_x first more) × AreFactors (first ∷ more) n

-- The text has the form of a number of this style, of this value.
abbrev pub IsSize : SizeStyle → List ℕ → ℕ → Type 0
IsSize Product text n = IsProduct text n
IsSize style text n = IsDecimal style text n ⊎ (IsHexadecimal style text n ⊎ IsOctal style text n)

-- A text reads as a size exactly where it has the form of one that isn't too large; it is too large where it has the form of a
-- larger one, and bad where it has the form of none.
abbrev pub SizeHasForm : Type 0
SizeHasForm = (style : SizeStyle) (text : List ℕ) →
    ((n : ℕ) → read_size style text ≡ Ok n ↔ (IsSize style text n × (n ≤ greatest style)))
    × (read_size style text ≡ Err TooLarge ↔ ((n : ℕ) × IsSize style text n × (greatest style < n)))
    × (read_size style text ≡ Err Bad ↔ ((n : ℕ) → IsSize style text n → ⊥))
