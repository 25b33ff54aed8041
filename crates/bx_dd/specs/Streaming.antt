-- What a copy to a writer reads and writes, and where it stands in between.
-- ---- a whole copy
use Rattle.std.specs.Prelude.{◌≡◌, ℕ, ◌+◌, ◌^◌, ◌<◌, ◌≤◌, max, ⊤, List, ◌++◌, length, take, Option}
use Rattle.std.specs.Io.KnownBytes.{Appends}
use Rattle.bx_text.specs.declared.fault.IoFault.{IoFault}
use Rattle.bx_text.specs.declared.fault.IoFault.TheVariants.{NoMemory, WriteFailed}
use Rattle.bx_text.specs.Stream.{IsRestCause}
use Rattle.bx_dd.specs.declared.counts.Counts.{Counts}
use Rattle.bx_dd.specs.declared.operands.plan.Plan.{Plan}
use Rattle.bx_dd.specs.Transfer.{Copies, ReadsWithin, output_of}

-- All that the plan makes of the input that was read was written and counted.
abbrev pub IsCopy : {A : Type 0} → Plan A → Option (List ℕ) → Option (List ℕ) → Option (List ℕ) → Option (List ℕ) → Counts → Type 0
IsCopy plan r0 r1 w0 w1 counts = (bytes : List ℕ) × Appends w0 w1 bytes × Copies plan r0 r1 bytes counts

-- Why a copy stopped that had read `read` bytes and written `written`, of an output of `size`. Memory is wanted before anything
-- is read, a write fails only before the output is whole, and an input is too long with one byte past 2^40.
abbrev pub IsCopyFault : IoFault → ℕ → ℕ → ℕ → Type 0
IsCopyFault NoMemory read written size = (read ≡ 0) × (written ≡ 0)
IsCopyFault (WriteFailed n) read written size = (n ≡ written) × (written < size) × (read ≤ 2 ^ 40)
IsCopyFault fault read written size = IsRestCause fault (2 ^ 40) read

-- How far reading is ahead where a write fails: no more than a buffer of 2^24 bytes, or a block where that is larger. What was read
-- before the last of them had its output written, but for at most 2^25 bytes that wait or end a record.
abbrev pub IsCopyAhead : ℕ → (List ℕ → List ℕ) → List ℕ → IoFault → Type 0
IsCopyAhead ibs output input (WriteFailed n) =
    (front last : List ℕ) × (input ≡ front ++ last) × (length last ≤ max (2 ^ 24) ibs) × (length (output front) ≤ n + 2 ^ 25)
IsCopyAhead ibs output input fault = ⊤

-- Some input was read, no more of it than skip and count ask for, and a front of what the plan makes of it was written.
pub record StopsCopy {A : Type 0} (plan : Plan A) (r0 r1 w0 w1 : Option (List ℕ)) (fault : IoFault) : Type 0 where
  pub read : ReadsWithin plan r0 r1
  pub written : ℕ
  pub appended : Appends w0 w1 (take written (output_of plan read.0))
  pub cause : IsCopyFault fault (length read.0) written (length (output_of plan read.0))
  pub ahead : IsCopyAhead plan.ibs (output_of plan) read.0 fault
