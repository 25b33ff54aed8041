-- What dd makes of an input.
use Rattle.std.specs.Prelude.{◌≡◌, ◌⊎◌, ◌+◌, ◌*◌, ◌^◌, ◌≤◌, ℕ, Option, None, Some, IfSome, Result, Ok, Err, List, length, codes}
use Rattle.std.specs.Io.KnownBytes.{Consumes}
use Rattle.bx_dd.specs.declared.fault.DdFault.{DdFault}
use Rattle.bx_dd.specs.declared.fault.DdFault.TheVariants.{NoMemory}
use Rattle.bx_dd.specs.declared.operands.plan.Plan.{Plan}
use Rattle.bx_dd.specs.Operands.{operands_fault, block_size, number_given, number_or}
use Rattle.bx_dd.specs.Parsing.{IsPlanOf}
use Rattle.bx_dd.specs.Plan.{change_of}
use Rattle.bx_dd.specs.Transfer.{Copies, HasStopped, ReadsWithin}
use Rattle.bx_cli_commands.specs.declared.changes.DdChange.{DdChange}

-- Why nothing is made: the first fault of the operands, or want of memory, and then nothing was read; else a fault of the
-- input or want of memory after some bytes
abbrev pub StopsMaking : Option DdFault → Option (List ℕ) → Option (List ℕ) → DdFault → Type 0
StopsMaking (Some fault) old left e = ((e ≡ fault) ⊎ (e ≡ NoMemory)) × (left ≡ old)
StopsMaking None old left e = HasStopped old left (2 ^ 40) e

-- no more was read than the operands' skip and count ask for
abbrev pub ReadsAsked : List (List ℕ) → Option (List ℕ) → Option (List ℕ) → Type 0
ReadsAsked words old left = (input : List ℕ) × Consumes old left input
    × IfSome (number_given (codes "count") words) (λ n. length input ≤ (number_or 0 (codes "skip") words + n) * block_size (codes "ibs") words)

-- What dd's operands make of what a reader gives, which then has `left`: the change of what their plan copies, and its counts.
-- After a fault no more was read than they ask for.
abbrev pub MakesCopy : {A : Type 0} → List (List ℕ) → Option (List ℕ) → Option (List ℕ) → Result (DdChange A) DdFault → Type 0
MakesCopy {A = A} words old left (Ok made) = (operands_fault words ≡ None) × ((plan : Plan A) × IsPlanOf words plan
    × ((bytes : List ℕ) × Copies plan old left bytes made.counts × (made.change ≡ change_of plan bytes)))
MakesCopy words old left (Err e) = StopsMaking (operands_fault words) old left e × ReadsAsked words old left

-- of what a reader gave, which then has `left`: the change of the plan, and the counts
abbrev pub CopiesBy : {A : Type 0} → Plan A → Option (List ℕ) → Option (List ℕ) → DdChange A → Type 0
CopiesBy plan old left made = (bytes : List ℕ) × Copies plan old left bytes made.counts × (made.change ≡ change_of plan bytes)

-- What a plan makes of what a reader gives, which then has `left`: the change of what it copies, and its counts; or a fault of the
-- input, or want of memory, and no more was read than it asks for
abbrev pub MakesBy : {A : Type 0} → Plan A → Option (List ℕ) → Option (List ℕ) → Result (DdChange A) DdFault → Type 0
MakesBy plan old left (Ok made) = CopiesBy plan old left made
MakesBy plan old left (Err e) = HasStopped old left (2 ^ 40) e × ReadsWithin plan old left
