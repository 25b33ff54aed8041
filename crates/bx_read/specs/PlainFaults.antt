-- Which fault plain hexadecimal has, and in which line.
use Rattle.std.specs.Prelude.{◌≡◌, ◌↔◌, ℕ, ◌+◌, ◌*◌, Bool, ◌==◌, ◌||◌, List, ◌∷◌, ◌++◌, length, filter, All, IsTrue, IsFalse, Err}
use Rattle.bx_read.specs.Digits.{is_hex}
use Rattle.bx_read.specs.Plain.{is_space, plain_answer}
use Rattle.bx_read.specs.PairGrammar.{IsBlank}
use Rattle.bx_read.specs.declared.fault.ReadFault.{ReadFault}
use Rattle.bx_read.specs.declared.fault.ReadFault.TheVariants.{NoMemory, BadAddress, MissingColon, BadPair, NoData, TooWide, AddressTooLarge, OddDigits}

-- a byte of plain hexadecimal: a digit or white space
abbrev pub belongs : ℕ → Bool
belongs c = is_hex c || is_space c

-- the line of a byte after these: one more than their newlines
abbrev pub line_after : List ℕ → ℕ
line_after before = length (filter (λ c. c == 10) before) + 1

-- The first byte that doesn't belong is in this line.
pub record HasBadByte (text : List ℕ) (line : ℕ) : Type 0 where
  pub before : List ℕ
  pub bad : ℕ
  pub after : List ℕ
  pub spelled : text ≡ before ++ bad ∷ after
  pub fine : All (λ c. IsTrue (belongs c)) before
  pub apart : IsFalse (belongs bad)
  pub in_line : line ≡ line_after before

-- All bytes belong, the number of digits is odd, and the last of them is in this line.
pub record HasOddDigits (text : List ℕ) (line : ℕ) : Type 0 where
  pub before : List ℕ
  pub last : ℕ
  pub blank : List ℕ
  pub half : ℕ
  pub spelled : text ≡ before ++ last ∷ blank
  pub fine : All (λ c. IsTrue (belongs c)) text
  pub odd : length (filter is_hex text) ≡ 2 * half + 1
  pub digit : IsTrue (is_hex last)
  pub is_blank : IsBlank blank
  pub in_line : line ≡ line_after before

-- The fault of plain hexadecimal.
abbrev pub IsFaultOfPlain : List ℕ → ReadFault → Type 0
IsFaultOfPlain text (BadPair line) = HasBadByte text line
IsFaultOfPlain text (OddDigits line) = HasOddDigits text line
IsFaultOfPlain text NoMemory = ⊥
IsFaultOfPlain text (BadAddress line) = ⊥
IsFaultOfPlain text (MissingColon line) = ⊥
IsFaultOfPlain text (NoData line) = ⊥
IsFaultOfPlain text (TooWide line) = ⊥
IsFaultOfPlain text (AddressTooLarge line) = ⊥

-- A fault is answered of plain hexadecimal exactly where it is the text's.
abbrev pub FaultIsOfPlain : Type 0
FaultIsOfPlain = (text : List ℕ) (fault : ReadFault) → plain_answer text ≡ Err fault ↔ IsFaultOfPlain text fault
