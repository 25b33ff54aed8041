-- What a look that was stopped has written: a front of what it would write, and how many bytes its fault tells.
use Rattle.std.specs.Prelude.{◌≡◌, ◌+◌, ◌^◌, ◌<◌, ◌≤◌, ℕ, List, Option, length, take}
use Rattle.std.specs.Io.KnownBytes.{Appends}
use Rattle.bx_journal_read.specs.declared.show.fault.ShowFault.{ShowFault}
use Rattle.bx_journal_read.specs.declared.show.fault.ShowFault.TheVariants.{Text, Io}
use Rattle.bx_text.specs.declared.fault.IoFault.TheVariants.{WriteFailed}

-- the bytes of a text are counted behind others, where 64 bits count them
abbrev pub CountsBytes : ℕ → List ℕ → ℕ → Type 0
CountsBytes before text after = before + length text < 2 ^ 64 → after ≡ before + length text

-- a failed write tells this count; no other fault tells any
abbrev pub TellsBytes : ShowFault → ℕ → Type 0
TellsBytes (Io (WriteFailed n)) count = n ≡ count
TellsBytes fault count = Unit {0}

-- the fault isn't of a write
abbrev pub IsOfReading : ShowFault → Type 0
IsOfReading (Text fault) = Unit {0}
IsOfReading (Io fault) = ⊥

-- A front of a text was written behind `before` bytes, and a failed write tells how many that are together, where 64 bits count the whole
pub record StopsPrefix (before : ℕ) (text : List ℕ) (old new : Option (List ℕ)) (fault : ShowFault) : Type 0 where
  pub count : ℕ
  pub within : count ≤ length text
  pub front : Appends old new (take count text)
  pub told : before + length text < 2 ^ 64 → TellsBytes fault (before + count)
