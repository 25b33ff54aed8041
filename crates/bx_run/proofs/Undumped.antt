-- Dumps that are not whole: their faults are of streams, and none is a device's.
use Rattle.std.proofs.Common.{◌≡◌, ◌+◌, ◌≤◌, ℕ, List, Option, Some, false, drop, length, inl, inr, refl}
use Rattle.std.specs.Prelude.{Result, Ok, Err, IfErr}
use Rattle.bx_cli_commands.specs.declared.fault.Fault.{Fault}
use Rattle.bx_cli_commands.specs.declared.jobs.dump.Done.{Done}
use Rattle.bx_cli_commands.specs.declared.jobs.dumps.DumpJob.{DumpJob}
use Rattle.bx_cli_commands.specs.declared.jobs.dumps.DumpJob.TheVariants.{Od, Xxd, Hexdump, Strings, Dd}
use Rattle.bx_cli_commands.specs.jobs.CopyOut.{StopsOut}
use Rattle.bx_cli_commands.specs.jobs.JobDump.{StopsJob}
use Rattle.bx_dd.specs.declared.operands.plan.Plan.{Plan}
use Rattle.bx_world.specs.World.{SystemState}
use Rattle.bx_world.specs.declared.world.Refusal.{Refusal}
use Rattle.bx_run_model.specs.Failures.{is_device_fault, is_failed}
use Rattle.bx_run_report.specs.dump.Dumps.{StopsInput, StopsNamed}
use Rattle.bx_run.specs.run.Outcome.{dump_fault, ended_with}
use Rattle.bx_run_report.specs.declared.dump.error.DumpError.{DumpError}
use Rattle.bx_run_report.specs.declared.dump.error.DumpError.TheVariants.{Unopened, Unplaced, Stopped}

copied : {A : Type 0} (rest : Plan A) (r0 r1 w0 w1 : Option (List ℕ)) (fault : Fault) → StopsOut rest r0 r1 w0 w1 fault → is_device_fault fault ≡ false
copied rest r0 r1 w0 w1 fault (inl seeks) = rw seeks.1 refl
copied rest r0 r1 w0 w1 fault (inr stops) = rw stops.1.1 refl

stopped : (passed : ℕ) (job : DumpJob) (r0 r1 w0 w1 : Option (List ℕ)) (fault : Fault) → StopsJob passed job r0 r1 w0 w1 fault → is_device_fault fault ≡ false
stopped passed (Od job) r0 r1 w0 w1 fault stops = rw stops.1 refl
stopped passed (Xxd job) r0 r1 w0 w1 fault stops = rw stops.1 refl
stopped passed (Hexdump job) r0 r1 w0 w1 fault stops = rw stops.1 refl
stopped passed (Strings job) r0 r1 w0 w1 fault stops = rw stops.1 refl
stopped passed (Dd job) r0 r1 w0 w1 fault stops = copied stops.0 r0 r1 w0 w1 fault stops.2

pub dumped_named : (job : DumpJob) (name : List ℕ) (w : SystemState) (outcome : Result Done DumpError) (old new : Option (List ℕ))
    → IfErr outcome (λ e. StopsNamed job name w e old new) → is_failed (ended_with dump_fault outcome) ≡ false
dumped_named job name w (Ok done) old new stops = refl
dumped_named job name w (Err (Unopened refusal)) old new stops = refl
dumped_named job name w (Err (Unplaced refusal)) old new stops = refl
dumped_named job name w (Err (Stopped fault)) old new stops =
    let bytes = stops.2 in
    stopped bytes.passed job (Some (drop bytes.passed (w.bytes stops.0))) bytes.stopped.0 old new fault bytes.stopped.1

pub dumped_input : (job : DumpJob) (input : Option (List ℕ)) (outcome : Result Done DumpError) (old new : Option (List ℕ))
    → IfErr outcome (StopsInput job input old new) → is_failed (ended_with dump_fault outcome) ≡ false
dumped_input job input (Ok done) old new stops = refl
dumped_input job input (Err (Unopened refusal)) old new stops = refl
dumped_input job input (Err (Unplaced refusal)) old new stops = refl
dumped_input job input (Err (Stopped fault)) old new stops = stopped 0 job input stops.0 old new fault stops.1
