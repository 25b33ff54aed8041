-- A change that isn't made: what is counted where a device stopped its patch.
use Rattle.std.proofs.Common.{◌≡◌, ◌+◌, ◌<◌, ℕ, Bool, List, true, false, arith, refl}
use Rattle.std.specs.Prelude.{Option, Result, Ok, Err, if◌then◌else◌}
use Rattle.bx_image.specs.declared.device.ImageFault.{ImageFault}
use Rattle.bx_image.specs.declared.device.ImageFault.TheVariants as image
use Rattle.bx_patch.specs.Diff.{fails}
use Rattle.bx_patch.specs.declared.diff.fault.DiffFault.{DiffFault}
use Rattle.bx_patch.specs.declared.diff.fault.DiffFault.TheVariants.{NoMemory}
use Rattle.bx_patch.specs.preview.Changed.{is_of_device}
use Rattle.bx_journal.specs.SessionFault.TheVariants.{DeviceFailed, Interrupted}
use Rattle.bx_cli_commands.specs.declared.fault.Fault.{Fault}
use Rattle.bx_cli_commands.specs.declared.fault.Fault.TheVariants.{Session}
use Rattle.bx_run_model.specs.Failures.{is_device_fault, is_read_failure}
use Rattle.bx_run_session.specs.preview.Previews.{IsOwnFault, StopsBefore, is_preview_failed}
use Rattle.bx_run_session.specs.preview.Proposed.{failed_image, unchanged_for}
use Rattle.bx_run_session.specs.declared.preview.error.PreviewError.{PreviewError}
use Rattle.bx_run_session.specs.declared.preview.error.PreviewError.TheVariants.{Refused, Stopped}
use Rattle.bx_run_session.specs.declared.session.task.Task.{Task}

never : false ≡ true → ⊥
never is = cc

-- where there is none since the device failed, this is counted
pub failed_unchanged : (why : ImageFault) (old new n : ℕ) → new ≡ (if is_of_device why then old + 1 else old)
    → is_read_failure (unchanged_for why) ≡ true → 0 < n + new
failed_unchanged image.DeviceFailed old new n counts is = omega arith
failed_unchanged image.NoMemory old new n counts is = absurd (never is)
failed_unchanged image.TooLarge old new n counts is = absurd (never is)

own_fault : (fault : Fault) → IsOwnFault fault → is_device_fault fault ≡ true → ⊥
own_fault (Session DeviceFailed) own is = own
own_fault (Session Interrupted) own is = own
own_fault fault own is = never is

-- what stops it before anything is compared is a device's only where that failed
pub failed_before : {R : Type 0} (remaining : R → Option (List ℕ)) (task : Task R) (keeps : Bool) (x : List ℕ) (why : PreviewError) (old new n : ℕ)
    → StopsBefore remaining task keeps x why → new ≡ (if failed_image {V = Unit {0}} (Err why) then old + 1 else old)
    → is_preview_failed {V = Unit {0}} (Err why) ≡ true → 0 < new + n
failed_before remaining task keeps x (Refused fault) old new n stops counts is = absurd (own_fault fault stops.0 is)
failed_before remaining task keeps x (Stopped fault) old new n stops counts is = let one = rw stops at counts in omega (arith, one)
failed_before remaining task keeps x why old new n stops counts is = absurd (never is)

-- what stopped the comparison
pub failed_stopped : {V : Type 0} (r : Result V DiffFault) (fault : DiffFault) → r ≡ Err fault → is_read_failure fault ≡ true → fails is_read_failure r ≡ true
failed_stopped r fault same is = rw same is

pub failed_unlisted : (fault : DiffFault) → fault ≡ NoMemory → is_read_failure fault ≡ true → ⊥
failed_unlisted fault same is = never (rw same at is)

-- what memory holds never fails
pub never_failed : (stopped : Bool) → (stopped ≡ true → 0 < 0) → stopped ≡ false
never_failed true some = absurd (omega (arith, some refl))
never_failed false some = refl
