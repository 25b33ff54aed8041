-- What pairs of digits look like, in a line of a dump and in plain text.
use Rattle.std.specs.Prelude.{◌≡◌, ◌↔◌, ◌⊎◌, ℕ, ◌+◌, ◌*◌, List, [], ◌∷◌, ◌++◌, All, IsTrue, Some, Ok}
use Rattle.std.specs.Char.{digit_value}
use Rattle.bx_read.specs.Digits.{is_hex, pairs_of}
use Rattle.bx_read.specs.Plain.{is_space, plain_answer}

-- Two hexadecimal digits write the byte.
abbrev pub WritesByte : ℕ → ℕ → ℕ → Type 0
WritesByte high low byte = IsTrue (is_hex high) × IsTrue (is_hex low) × (byte ≡ 16 * digit_value high + digit_value low)

-- what may stand between two pairs of a line: nothing, or one space
abbrev pub IsGap : List ℕ → Type 0
IsGap gap = (gap ≡ []) ⊎ (gap ≡ 32 ∷ [])

-- The text is one pair of digits for each of the bytes, which are some, with nothing or one space between two.
abbrev pub ArePairs : List ℕ → List ℕ → Type 0
ArePairs [] text = ⊥
ArePairs (byte ∷ []) text = (high low : ℕ) × (text ≡ high ∷ low ∷ []) × WritesByte high low byte
ArePairs (byte ∷ next ∷ bytes) text =
    (high low : ℕ) × (gap rest : List ℕ) × (text ≡ high ∷ low ∷ (gap ++ rest))
    × WritesByte high low byte × IsGap gap × ArePairs (next ∷ bytes) rest

-- A text reads as bytes exactly where it is their pairs.
abbrev pub PairsHaveForm : Type 0
PairsHaveForm = (text bytes : List ℕ) → pairs_of text ≡ Some bytes ↔ ArePairs bytes text

-- white space alone, or none
abbrev pub IsBlank : List ℕ → Type 0
IsBlank text = All (λ c. IsTrue (is_space c)) text

-- The text is two digits for each of the bytes, with white space before, between and behind them.
abbrev pub IsPlain : List ℕ → List ℕ → Type 0
IsPlain [] text = IsBlank text
IsPlain (byte ∷ bytes) text =
    (before between rest : List ℕ) × (high low : ℕ) × (text ≡ before ++ high ∷ (between ++ low ∷ rest))
    × IsBlank before × IsBlank between × WritesByte high low byte × IsPlain bytes rest

-- A plain text reads as bytes exactly where it is their digits and white space.
abbrev pub PlainHasForm : Type 0
PlainHasForm = (text bytes : List ℕ) → plain_answer text ≡ Ok bytes ↔ IsPlain bytes text
