-- Which fault a line of a dump has: that of the first part that isn't as it has to be.
use Rattle.std.specs.Prelude.{◌≡◌, ◌≢◌, ◌⊎◌, ◌↔◌, ℕ, ◌^◌, ◌<◌, ◌≤◌, false, List, ◌∷◌, ◌++◌, length, slice_index, All, IsTrue, Err}
use Rattle.std.specs.Str.Parse.{digits_value}
use Rattle.bx_read.specs.Digits.{is_hex}
use Rattle.bx_read.specs.Grammar.{EndsData}
use Rattle.bx_read.specs.Line.{read_line}
use Rattle.bx_read.specs.PairGrammar.{ArePairs}
use Rattle.bx_read.specs.declared.fault.ReadFault.{ReadFault}
use Rattle.bx_read.specs.declared.fault.ReadFault.TheVariants.{NoMemory, BadAddress, MissingColon, BadPair, NoData, TooWide, AddressTooLarge, OddDigits}

-- The line is digits, all that stand in front, and what follows them.
pub record BeginsWith (text digits rest : List ℕ) : Type 0 where
  pub spelled : text ≡ digits ++ rest
  pub address : All (λ c. IsTrue (is_hex c)) digits
  pub ends : is_hex (slice_index rest 0) ≡ false

-- The digits are an address: 1 to 16 of them.
pub record HasAddress (text digits rest : List ℕ) : Type 0 where
  pub begins : BeginsWith text digits rest
  pub some : 0 < length digits
  pub few : length digits ≤ 16

-- The text is pairs for these bytes and what may follow them.
abbrev pub HasData : List ℕ → List ℕ → Type 0
HasData body bytes = (hex tail : List ℕ) × (body ≡ hex ++ tail) × ArePairs bytes hex × EndsData tail

-- What follows the colon isn't nothing, one space, or two spaces and anything, and it isn't a space and pairs.
abbrev pub IsNoPairs : List ℕ → Type 0
IsNoPairs tail = (EndsData tail → ⊥) × ((body bytes : List ℕ) → tail ≡ 32 ∷ body → HasData body bytes → ⊥)

-- A space and pairs follow the colon.
pub record HasPairs (text digits body bytes : List ℕ) : Type 0 where
  pub address : HasAddress text digits (58 ∷ 32 ∷ body)
  pub pairs : HasData body bytes

-- The fault of the line of this number.
abbrev pub IsFaultOf : ℕ → List ℕ → ReadFault → Type 0
IsFaultOf number text (BadAddress n) =
    (n ≡ number) × ((digits rest : List ℕ) × BeginsWith text digits rest × ((length digits ≡ 0) ⊎ (16 < length digits)))
IsFaultOf number text (MissingColon n) = (n ≡ number) × ((digits rest : List ℕ) × HasAddress text digits rest × (slice_index rest 0 ≢ 58))
IsFaultOf number text (NoData n) = (n ≡ number) × ((digits tail : List ℕ) × HasAddress text digits (58 ∷ tail) × EndsData tail)
IsFaultOf number text (BadPair n) = (n ≡ number) × ((digits tail : List ℕ) × HasAddress text digits (58 ∷ tail) × IsNoPairs tail)
IsFaultOf number text (TooWide n) = (n ≡ number) × ((digits body bytes : List ℕ) × HasPairs text digits body bytes × (256 < length bytes))
IsFaultOf number text (AddressTooLarge n) =
    (n ≡ number) × ((digits body bytes : List ℕ) × HasPairs text digits body bytes × (length bytes ≤ 256) × (2 ^ 62 ≤ digits_value 16 digits))
IsFaultOf number text NoMemory = ⊥
IsFaultOf number text (OddDigits n) = ⊥

-- A fault is answered of a line exactly where it is the line's.
abbrev pub FaultIsOfLine : Type 0
FaultIsOfLine = (number : ℕ) (text : List ℕ) (fault : ReadFault) → read_line number text ≡ Err fault ↔ IsFaultOf number text fault
