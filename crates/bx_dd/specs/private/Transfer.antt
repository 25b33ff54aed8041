-- What a transfer reads, and what it makes of that.
use Rattle.std.specs.Prelude.{◌≡◌, ℕ, ◌+◌, ◌*◌, ◌≤◌, List, length, take, drop, Option, IfSome, ◌⊎◌}
use Rattle.std.specs.Option.{option_map_or, IsSomeAnd}
use Rattle.std.specs.Io.KnownBytes.{Consumes, IsAtEnd}
use Rattle.bx_text.specs.declared.stream.Meter.{Meter}
use Rattle.bx_text.specs.declared.stream.State.{State}
use Rattle.bx_text.specs.declared.stream.State.TheVariants.{Open, Ended}
use Rattle.bx_dd.specs.declared.fault.DdFault.{DdFault}
use Rattle.bx_dd.specs.declared.fault.DdFault.TheVariants.{NoMemory, ReadFailed, InputTooLong}
use Rattle.bx_dd.specs.Standing.{IsAfter, Progress}

-- what follows `skip` blocks, at most `count` blocks of it
abbrev pub selected : ℕ → ℕ → Option ℕ → List ℕ → List ℕ
selected ibs skip count input = option_map_or (λ n. take (n * ibs) (drop (skip * ibs) input)) count (drop (skip * ibs) input)

-- the input's end was reached, or that of skip and count
abbrev pub IsReadOut : Option (List ℕ) → ℕ → ℕ → Option ℕ → List ℕ → Type 0
IsReadOut new ibs skip count input = IsAtEnd new ⊎ IsSomeAnd count (λ n. length input ≡ (skip + n) * ibs)

-- no more was read than skip and count ask for
abbrev pub ReadsNoMore : ℕ → ℕ → Option ℕ → List ℕ → Type 0
ReadsNoMore ibs skip count input = IfSome count (λ n. length input ≤ (skip + n) * ibs)

-- why a transfer stopped after n bytes where there was room for `room` of them
abbrev pub IsStopCause : DdFault → ℕ → ℕ → Type 0
IsStopCause fault room n = ((fault ≡ InputTooLong) × (n ≡ room + 1)) ⊎ (((fault ≡ NoMemory) ⊎ (fault ≡ ReadFailed)) × (n ≤ room))

-- some bytes were read before the fault, no more than `most` of them bytes were read
abbrev pub StopsWithin : ℕ → Option (List ℕ) → Option (List ℕ) → ℕ → DdFault → Type 0
StopsWithin most old new room fault = (bytes : List ℕ) × Consumes old new bytes × IsStopCause fault room (length bytes) × (length bytes ≤ most)

-- these bytes were read: n blocks, or fewer up to the input's end
pub record HasReadBlocks (old new : Option (List ℕ)) (n size : ℕ) (state : State) (input : List ℕ) : Type 0 where
  pub consumed : Consumes old new input
  pub within : length input ≤ n * size
  pub extent : ((state ≡ Open) × (length input ≡ n * size)) ⊎ ((state ≡ Ended) × IsAtEnd new)

-- blocks were read, and counted
abbrev pub ReadsBlocks : Option (List ℕ) → Option (List ℕ) → ℕ → ℕ → Meter → Meter → Type 0
ReadsBlocks old new n size before after = (input : List ℕ) × HasReadBlocks old new n size after.state input × (after.taken ≡ before.taken + length input)

-- blocks were read and converted, and counted
abbrev pub TakesBlocks : Option (List ℕ) → Option (List ℕ) → ℕ → ℕ → Meter → Meter → Progress → Type 0
TakesBlocks old new n size before after c =
    (input : List ℕ) × IsAfter input c × HasReadBlocks old new n size after.state input × (after.taken ≡ before.taken + length input)
