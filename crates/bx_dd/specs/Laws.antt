-- What the definitions say, in other words.
use Rattle.std.specs.Prelude.{◌≡◌, ℕ, ◌+◌, ◌-◌, ◌%◌, ◌<◌, ◌==◌, nat_lt, if◌then◌else◌, List, [], ◌++◌, ◌∷◌, length, slice_index, Option, None, Some}
use Rattle.bx_dd.specs.declared.fault.DdFault.{DdFault}
use Rattle.bx_dd.specs.Operands.{first_fault, operand_fault}
use Rattle.bx_dd.specs.Output.{swapped}

-- the other place of a pair: the place with its lowest bit turned
abbrev pub other_place : ℕ → ℕ
other_place i = if i % 2 == 0 then i + 1 else i - 1

-- where the byte comes from that place i of n bytes gets: the other place, where there is one
abbrev pub swap_place : ℕ → ℕ → ℕ
swap_place n i = if nat_lt (other_place i) n then other_place i else i

-- Each byte of a swapped block is the byte at its place with the lowest bit turned, where the block has that place.
abbrev pub SwapTurnsLowestBit : Type 0
SwapTurnsLowestBit = (block : List ℕ) → (length (swapped block) ≡ length block)
    × ((i : ℕ) → i < length block → slice_index (swapped block) i ≡ slice_index block (swap_place (length block) i))

-- Each of the words is sound, where these stand in front of the first.
abbrev pub AreSound : List (List ℕ) → List (List ℕ) → Type 0
AreSound before [] = Unit {0}
AreSound before (word ∷ words) = (operand_fault before word ≡ None) × AreSound (before ++ word ∷ []) words

-- The fault is that of a word, and all words in front of it are sound.
pub record IsFirstFault (before words : List (List ℕ)) (fault : DdFault) : Type 0 where
  pub front : List (List ℕ)
  pub rest : List (List ℕ)
  pub word : List ℕ
  pub stands : words ≡ front ++ word ∷ rest
  pub sound : AreSound before front
  pub faulty : operand_fault (before ++ front) word ≡ Some fault

-- Where one of the words has a fault by itself, the first such fault was found; where none has one, none was.
abbrev pub IsFirstOf : Option DdFault → List (List ℕ) → List (List ℕ) → Type 0
IsFirstOf None before words = AreSound before words
IsFirstOf (Some fault) before words = IsFirstFault before words fault

-- The fault of the operands one by one is the first of them.
abbrev pub FirstFaultIsFirst : Type 0
FirstFaultIsFirst = (words : List (List ℕ)) → IsFirstOf (first_fault [] words) [] words
