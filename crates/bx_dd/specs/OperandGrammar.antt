-- What operands of dd look like, which fault one has, and what they ask for.
use Rattle.std.specs.Prelude.{◌≡◌, ◌≢◌, ◌↔◌, ◌⊎◌, ℕ, ◌+◌, ◌-◌, ◌^◌, ◌<◌, ◌≤◌, ◌==◌, true, false, List, [], ◌∷◌, ◌++◌, length, codes, All, IsTrue, None, Some}
use Rattle.std.specs.List.{slice_split}
use Rattle.bx_dd.specs.Number.{has_bytes}
use Rattle.bx_dd.specs.NumberGrammar.{IsNumberOf}
use Rattle.bx_dd.specs.declared.fault.DdFault.{DdFault}
use Rattle.bx_dd.specs.declared.fault.DdFault.TheVariants.{UnknownOperand, BadNumber, NumberTooLarge, ZeroSize, Repeated}
use Rattle.bx_dd.specs.declared.operands.Kind.{Kind}
use Rattle.bx_dd.specs.declared.operands.Kind.TheVariants.{File, Size, Number, Conversions, Flags, Reports}
use Rattle.bx_dd.specs.Operands.{kind_of, is_conversion, is_flag, is_report, operand_fault, first_fault, given, number_given, converts}

-- The word is a name, the first `=` in it, and a value.
abbrev pub IsOperand : List ℕ → List ℕ → List ℕ → Type 0
IsOperand word name value = (word ≡ name ++ 61 ∷ value) × All (λ b. b ≢ 61) name

-- One of the words is an operand of this name.
abbrev pub IsAmong : List ℕ → List (List ℕ) → Type 0
IsAmong name words = (front rest : List (List ℕ)) × (word value : List ℕ) × (words ≡ front ++ word ∷ rest) × IsOperand word name value

-- Each word of the value of `conv` is a conversion.
abbrev pub AreConversions : List ℕ → Type 0
AreConversions value = All (λ part. IsTrue (is_conversion part)) (slice_split (λ b. b == 44) value)

-- Each word of the value of `iflag` is a flag.
abbrev pub AreFlags : List ℕ → Type 0
AreFlags value = All (λ part. IsTrue (is_flag part)) (slice_split (λ b. b == 44) value)

-- The value is one of its kind: a name, a size, a number of blocks, which has no B, conversions, flags, or a report.
abbrev pub IsSoundValue : Kind → List ℕ → Type 0
IsSoundValue File value = value ≢ []
IsSoundValue (Size most) value = (n : ℕ) × IsNumberOf value n × (0 < n) × (n ≤ most) × (n ≤ 2 ^ 40 - 1)
IsSoundValue Number value = (has_bytes value ≡ false) × ((n : ℕ) × IsNumberOf value n × (n ≤ 2 ^ 40 - 1))
IsSoundValue Conversions value = AreConversions value
IsSoundValue Flags value = AreFlags value
IsSoundValue Reports value = IsTrue (is_report value)

-- The value is no product of factors.
abbrev pub IsNoProduct : List ℕ → Type 0
IsNoProduct value = (n : ℕ) → IsNumberOf value n → ⊥

-- The fault of a value that isn't, at this place.
abbrev pub IsValueFault : ℕ → Kind → List ℕ → DdFault → Type 0
IsValueFault at File value fault = (fault ≡ UnknownOperand at) × (value ≡ [])
IsValueFault at (Size most) value fault =
    ((fault ≡ BadNumber at) × IsNoProduct value)
    ⊎ (((fault ≡ NumberTooLarge at) × ((n : ℕ) × IsNumberOf value n × ((most < n) ⊎ (2 ^ 40 - 1 < n))))
    ⊎ ((fault ≡ ZeroSize at) × IsNumberOf value 0))
IsValueFault at Number value fault =
    ((fault ≡ BadNumber at) × ((has_bytes value ≡ true) ⊎ IsNoProduct value))
    ⊎ ((fault ≡ NumberTooLarge at) × (has_bytes value ≡ false) × ((n : ℕ) × IsNumberOf value n × (2 ^ 40 - 1 < n)))
IsValueFault at Conversions value fault = (fault ≡ UnknownOperand at) × (AreConversions value → ⊥)
IsValueFault at Flags value fault = (fault ≡ UnknownOperand at) × (AreFlags value → ⊥)
IsValueFault at Reports value fault = (fault ≡ UnknownOperand at) × (IsTrue (is_report value) → ⊥)

-- The word is an operand of a known name that wasn't given before, and its value is sound.
abbrev pub IsSoundBehind : List (List ℕ) → List ℕ → Type 0
IsSoundBehind before word =
    (name value : List ℕ) × (kind : Kind) × IsOperand word name value × (kind_of name ≡ Some kind)
    × (IsAmong name before → ⊥) × IsSoundValue kind value

-- The fault of a word behind others: it is no operand of a known name; or its name was given before; or its value is at fault.
abbrev pub IsOperandFault : List (List ℕ) → List ℕ → DdFault → Type 0
IsOperandFault before word fault = let at = length before + 1 in
    ((fault ≡ UnknownOperand at) × ((name value : List ℕ) → (kind : Kind) → IsOperand word name value → kind_of name ≡ Some kind → ⊥))
    ⊎ ((name value : List ℕ) × (kind : Kind) × IsOperand word name value × (kind_of name ≡ Some kind)
    × (((fault ≡ Repeated at) × IsAmong name before) ⊎ ((IsAmong name before → ⊥) × IsValueFault at kind value fault)))

-- A word has no fault exactly where it is sound, and this fault exactly where it is its.
abbrev pub OperandHasForm : Type 0
OperandHasForm = (before : List (List ℕ)) (word : List ℕ) →
    (operand_fault before word ≡ None ↔ IsSoundBehind before word)
    × ((fault : DdFault) → operand_fault before word ≡ Some fault ↔ IsOperandFault before word fault)

-- Each of the words is sound behind those before it.
abbrev pub AreSoundBehind : List (List ℕ) → List (List ℕ) → Type 0
AreSoundBehind before [] = Unit {0}
AreSoundBehind before (word ∷ words) = IsSoundBehind before word × AreSoundBehind (before ++ word ∷ []) words

-- The words have no fault one by one exactly where each is sound, and this fault exactly where it is that of a word behind sound ones.
abbrev pub OperandsHaveForm : Type 0
OperandsHaveForm = (words : List (List ℕ)) →
    (first_fault [] words ≡ None ↔ AreSoundBehind [] words)
    × ((fault : DdFault) → first_fault [] words ≡ Some fault
    ↔ ((front rest : List (List ℕ)) × (word : List ℕ) × (words ≡ front ++ word ∷ rest)
    × AreSoundBehind [] front × IsOperandFault front word fault))

-- The first operand of this name has this value.
abbrev pub Says : List (List ℕ) → List ℕ → List ℕ → Type 0
Says words name value =
    (front rest : List (List ℕ)) × (word : List ℕ) × (words ≡ front ++ word ∷ rest) × IsOperand word name value × (IsAmong name front → ⊥)

-- What is asked for is what the words say: the value of a name, its number, and each conversion.
abbrev pub WordsAreAskedFor : Type 0
WordsAreAskedFor = (words : List (List ℕ)) (name : List ℕ) →
    ((value : List ℕ) → given name words ≡ Some value ↔ Says words name value)
    × (given name words ≡ None ↔ (IsAmong name words → ⊥))
    × ((n : ℕ) → number_given name words ≡ Some n ↔ ((value : List ℕ) × Says words name value × IsNumberOf value n × (n ≤ 2 ^ 40 - 1)))
    × ((part : List ℕ) → part ≢ [] → converts part words ≡ true
    ↔ ((value : List ℕ) × (front rest : List (List ℕ)) × Says words (codes "conv") value
    × (slice_split (λ b. b == 44) value ≡ front ++ part ∷ rest)))
