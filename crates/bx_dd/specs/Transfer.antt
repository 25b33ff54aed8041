-- What a transfer reads, and what it makes of that.
use Rattle.std.specs.Prelude.{◌≡◌, ℕ, ◌+◌, ◌*◌, ◌^◌, ◌≤◌, List, length, take, drop, Option, IfSome, ◌⊎◌}
use Rattle.std.specs.Option.{option_map_or, IsSomeAnd}
use Rattle.std.specs.Io.KnownBytes.{Consumes, IsAtEnd}
use Rattle.bx_dd.specs.declared.counts.Counts.{Counts}
use Rattle.bx_dd.specs.declared.fault.DdFault.{DdFault}
use Rattle.bx_dd.specs.declared.fault.DdFault.TheVariants.{NoMemory, ReadFailed, InputTooLong}
use Rattle.bx_dd.specs.declared.operands.plan.Plan.{Plan}
use Rattle.bx_dd.specs.Counting.{counts_of}
use Rattle.bx_dd.specs.Output.{converted}
use Rattle.bx_dd.specs.Plan.{plan_form}

-- of an input, what a plan copies: what follows `skip` blocks, at most `count` blocks of it
abbrev pub selected_by : {A : Type 0} → Plan A → List ℕ → List ℕ
selected_by plan input = option_map_or (λ n. take (n * plan.ibs) (drop (plan.skip * plan.ibs) input)) plan.count (drop (plan.skip * plan.ibs) input)

-- of an input, what a plan writes
abbrev pub output_of : {A : Type 0} → Plan A → List ℕ → List ℕ
output_of plan input = converted (plan_form plan) (selected_by plan input)

-- an input was read, the first part of this, and no more of it than skip and count ask for
abbrev pub ReadsWithin : {A : Type 0} → Plan A → Option (List ℕ) → Option (List ℕ) → Type 0
ReadsWithin plan old new = (input : List ℕ) × Consumes old new input × IfSome plan.count (λ n. length input ≤ (plan.skip + n) * plan.ibs)

-- Some input was read, up to its end or that of skip and count, and these bytes and counts are what the plan makes of it.
pub record Copies {A : Type 0} (plan : Plan A) (r0 r1 : Option (List ℕ)) (bytes : List ℕ) (counts : Counts) : Type 0 where
  pub read : ReadsWithin plan r0 r1
  pub ends : IsAtEnd r1 ⊎ IsSomeAnd plan.count (λ n. length read.0 ≡ (plan.skip + n) * plan.ibs)
  pub few : length read.0 ≤ 2 ^ 40
  pub made : bytes ≡ output_of plan read.0
  pub counted : counts ≡ counts_of (plan_form plan) (selected_by plan read.0)

-- some bytes were read before the fault, where there was room for `room` of them: too long is one byte more
abbrev pub HasStopped : Option (List ℕ) → Option (List ℕ) → ℕ → DdFault → Type 0
HasStopped old new room fault = (bytes : List ℕ) × Consumes old new bytes
    × (((fault ≡ InputTooLong) × (length bytes ≡ room + 1)) ⊎ (((fault ≡ NoMemory) ⊎ (fault ≡ ReadFailed)) × (length bytes ≤ room)))
