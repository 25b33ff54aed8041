-- Plain hexadecimal that is read window by window.
use Rattle.std.specs.Prelude.{◌≡◌, ◌⊎◌, ℕ, ◌+◌, not, List, [], ◌∷◌, ◌++◌, filter, Option, None, Some, Err}
use Rattle.std.specs.Option.{option_map}
use Rattle.bx_read.specs.Plain.{is_space, hex_bytes, bad_line, digit_line, plain_answer}
use Rattle.bx_read.specs.declared.fault.ReadFault.{ReadFault}
use Rattle.bx_read.specs.declared.fault.ReadFault.TheVariants.{NoMemory}

-- What callers see of plain hexadecimal that is read window by window: its bytes, and a digit whose second one is still to come; how
-- many newlines were passed, and the line of the last digit; what stopped the reading.
pub record PlainView : Type 0 where
  pub bytes : List ℕ
  pub half : Option ℕ
  pub passed : ℕ
  pub last : ℕ
  pub fault : Option ReadFault

-- a digit whose second one is still to come, or none
abbrev pub half_digit : Option ℕ → List ℕ
half_digit None = []
half_digit (Some digit) = digit ∷ []

-- Whatever follows the text is read as it is after these bytes and half a pair, `passed` newlines, and a last digit in line `last`.
pub record HasDigits (text bytes : List ℕ) (half : Option ℕ) (passed last : ℕ) : Type 0 where
  pub digits : (more : List ℕ) → hex_bytes (filter (λ c. not (is_space c)) (text ++ more))
      ≡ option_map (λ others. bytes ++ others) (hex_bytes (half_digit half ++ filter (λ c. not (is_space c)) more))
  pub bad : (more : List ℕ) → bad_line 1 (text ++ more) ≡ bad_line (passed + 1) more
  pub ends : (more : List ℕ) → digit_line 1 1 (text ++ more) ≡ digit_line last (passed + 1) more

-- Memory was refused, or this is the text's fault.
abbrev pub IsPlainFault : List ℕ → ReadFault → Type 0
IsPlainFault text fault = (fault ≡ NoMemory) ⊎ (plain_answer text ≡ Err fault)

-- its digits were read, or a fault is known: one of memory, or that of each text which begins so
abbrev pub HasReadPlainBy : List ℕ → PlainView → Option ReadFault → Type 0
HasReadPlainBy text read None = HasDigits text read.bytes read.half read.passed read.last
HasReadPlainBy text read (Some fault) = (fault ≡ NoMemory) ⊎ ((rest : List ℕ) → plain_answer (text ++ rest) ≡ Err fault)

-- The text was read, as far as this can be done without what follows it.
abbrev pub HasReadPlain : List ℕ → PlainView → Type 0
HasReadPlain text read = HasReadPlainBy text read read.fault
