-- The front of a line that isn't whole yet.
use Rattle.std.specs.Prelude.{◌≡◌, ℕ, ◌<◌, Bool, true, false, List, ◌∷◌, ◌++◌, length, Some, Err}
use Rattle.bx_read.specs.Digits.{pairs_of}
use Rattle.bx_read.specs.FaultTable.{HasAddress}
use Rattle.bx_read.specs.Text.{lines_of, answers, gathered}
use Rattle.bx_read.specs.declared.fault.ReadFault.{ReadFault}
use Rattle.bx_read.specs.declared.fault.ReadFault.TheVariants.{NoMemory, BadAddress, MissingColon, BadPair, NoData, TooWide, AddressTooLarge, OddDigits}

-- whether the fault is that there are too many pairs
abbrev pub is_too_wide : ReadFault → Bool
is_too_wide (TooWide line) = true
is_too_wide NoMemory = false
is_too_wide (BadAddress line) = false
is_too_wide (MissingColon line) = false
is_too_wide (BadPair line) = false
is_too_wide (NoData line) = false
is_too_wide (AddressTooLarge line) = false
is_too_wide (OddDigits line) = false

-- Each line of this number that begins so has the fault.
abbrev pub IsFaultOfFront : ℕ → List ℕ → ReadFault → Type 0
IsFaultOfFront number front fault = (rest : List ℕ) → gathered (answers number (lines_of (front ++ rest))) ≡ Err fault

-- The front of a line ends with a pair, and has more than 256.
pub record IsWideFront (front : List ℕ) : Type 0 where
  pub digits : List ℕ
  pub hex : List ℕ
  pub bytes : List ℕ
  pub address : HasAddress front digits (58 ∷ 32 ∷ hex)
  pub pairs : pairs_of hex ≡ Some bytes
  pub wide : 256 < length bytes
