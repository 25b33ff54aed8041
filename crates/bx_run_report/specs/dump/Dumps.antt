-- What a dump of a named file writes, and of an input.
use Rattle.std.specs.Prelude.{◌≡◌, ◌+◌, ◌≤◌, ℕ, List, Option, None, Some, Result, Ok, Err, IfSome, drop, length}
use Rattle.bx_cli_commands.specs.declared.fault.Fault.{Fault}
use Rattle.bx_cli_commands.specs.declared.jobs.dump.Done.{Done}
use Rattle.bx_cli_commands.specs.declared.jobs.dumps.DumpJob.{DumpJob}
use Rattle.bx_cli_commands.specs.jobs.JobDump.{StopsJob}
use Rattle.bx_cli_commands.specs.jobs.Passing.{CanPass, skip_of}
use Rattle.bx_world.specs.World.{SystemState}
use Rattle.bx_world.specs.declared.world.Refusal.TheVariants.{Missing}
use Rattle.bx_run_report.specs.dump.Texts.{DumpsWhole}
use Rattle.bx_run_report.specs.declared.dump.error.DumpError.{DumpError}
use Rattle.bx_run_report.specs.declared.dump.error.DumpError.TheVariants.{Unopened, Unplaced, Stopped}

-- ---- an input

-- a fault stopped the dump of an input that stands behind passed bytes, and a front of its text was written
abbrev pub WritesDumpFront : ℕ → DumpJob → Option (List ℕ) → Option (List ℕ) → Option (List ℕ) → Fault → Type 0
WritesDumpFront passed job input old new fault = (left : Option (List ℕ)) × StopsJob passed job input left old new fault

-- what the job makes of all the bytes that an input gives was written
abbrev pub DumpsInput : DumpJob → Option (List ℕ) → Done → Option (List ℕ) → Option (List ℕ) → Type 0
DumpsInput job input done old new = IfSome input (λ bytes. DumpsWhole job bytes done old new)

-- a fault stopped the dump
abbrev pub IsStopped : DumpError → Type 0
IsStopped (Stopped fault) = Unit {0}
IsStopped e = ⊥

-- a fault stopped the dump of an input, where nothing was passed, and a front of its text was written
abbrev pub StopsInput : DumpJob → Option (List ℕ) → Option (List ℕ) → Option (List ℕ) → DumpError → Type 0
StopsInput job input old new (Stopped fault) = WritesDumpFront 0 job input old new fault
StopsInput job input old new e = ⊥

-- ---- the bytes of a file

-- Some of the bytes that the job skips were passed, and a fault stopped the dump of what follows them.
pub record StopsBytes (job : DumpJob) (bytes : List ℕ) (fault : Fault) (old new : Option (List ℕ)) : Type 0 where
  pub passed : ℕ
  pub skipped : CanPass passed (skip_of job)
  pub within : passed ≤ length bytes
  pub stopped : WritesDumpFront passed job (Some (drop passed bytes)) old new fault

-- a file that is open could not be placed, and nothing was written; or a fault stopped its dump
abbrev pub StopsOpened : DumpJob → List ℕ → DumpError → Option (List ℕ) → Option (List ℕ) → Type 0
StopsOpened job bytes (Stopped fault) old new = StopsBytes job bytes fault old new
StopsOpened job bytes (Unplaced refusal) old new = new ≡ old
StopsOpened job bytes (Unopened refusal) old new = ⊥

-- ---- a file by its name

-- the name leads to a file, and what the job makes of all its bytes was written
abbrev pub DumpsNamed : DumpJob → List ℕ → SystemState → Done → Option (List ℕ) → Option (List ℕ) → Type 0
DumpsNamed job name state done old new = (n : ℕ) × (state.named name ≡ Some n) × DumpsWhole job (state.bytes n) done old new

-- no file was opened, and nothing was written; or it was opened, and could not be placed, or its dump stopped
abbrev pub StopsNamed : DumpJob → List ℕ → SystemState → DumpError → Option (List ℕ) → Option (List ℕ) → Type 0
StopsNamed job name state (Unopened Missing) old new = (state.named name ≡ None) × (new ≡ old)
StopsNamed job name state (Unopened refusal) old new = new ≡ old
StopsNamed job name state e old new = (n : ℕ) × (state.named name ≡ Some n) × StopsOpened job (state.bytes n) e old new

-- a file that was not opened or placed was refused by the system, unless it is missing; else nothing was
abbrev pub CountsUndumped : Result Done DumpError → ℕ → ℕ → Type 0
CountsUndumped (Err (Unplaced refusal)) old new = new ≡ old + 1
CountsUndumped (Err (Unopened Missing)) old new = new ≡ old
CountsUndumped (Err (Unopened refusal)) old new = new ≡ old + 1
CountsUndumped outcome old new = new ≡ old
