-- The patch of steps: what is counted where a device stopped it.
use Rattle.std.proofs.Common.{◌≡◌, ◌+◌, ◌<◌, ℕ, true, false, arith, refl, sym}
use Rattle.std.specs.Prelude.{Result, Ok, Err, if◌then◌else◌}
use Rattle.bx_image.specs.declared.device.ImageFault.{ImageFault}
use Rattle.bx_image.specs.declared.device.ImageFault.TheVariants as image
use Rattle.bx_patch.specs.Diff.{fails}
use Rattle.bx_patch.specs.declared.diff.fault.DiffFault.{DiffFault}
use Rattle.bx_patch.specs.declared.diff.fault.DiffFault.TheVariants.{NewFailed, OldFailed}
use Rattle.bx_patch.specs.preview.Changed.{is_of_device}
use Rattle.bx_journal.specs.Direction.{Direction}
use Rattle.bx_journal.specs.Direction.TheVariants.{Undo, Redo}
use Rattle.bx_run_model.specs.Failures.{is_read_failure}
use Rattle.bx_run_report.specs.report.Looks.{is_unseen_failed}
use Rattle.bx_run_model.specs.Failures.{of_behind, of_there}
use Rattle.bx_run_report.specs.report.Stepped.{stopped_by, too_few, unchanged_by}

never : false ≡ true → ⊥
never is = cc

-- of an image that is there and the one behind steps the first has failed where the second hasn't
pub failed_there : {T : Type 0} (way : Direction) (r : Result T DiffFault) (old new : ℕ) → new ≡ (if fails (of_there way) r then old + 1 else old)
    → fails is_read_failure r ≡ true → fails (of_behind way) r ≡ false → 0 < new
failed_there way (Ok t) old new counts is calm = absurd (never is)
failed_there Undo (Err OldFailed) old new counts is calm = absurd (never (sym calm))
failed_there Undo (Err NewFailed) old new counts is calm = omega arith
failed_there Redo (Err OldFailed) old new counts is calm = omega arith
failed_there Redo (Err NewFailed) old new counts is calm = absurd (never (sym calm))
failed_there way (Err fault) old new counts is calm = absurd (never is)

-- it is said that a device failed where the comparison does
pub failed_saying : (fault : DiffFault) → is_unseen_failed (stopped_by fault) ≡ true → is_read_failure fault ≡ true
failed_saying OldFailed is = refl
failed_saying NewFailed is = refl
failed_saying fault is = absurd (never is)

-- where there is none since the device failed, this is counted
pub failed_unstepped : (why : ImageFault) (old new n : ℕ) → new ≡ (if is_of_device why then old + 1 else old)
    → is_unseen_failed (stopped_by (unchanged_by why)) ≡ true → 0 < n + new
failed_unstepped image.DeviceFailed old new n counts is = omega arith
failed_unstepped image.NoMemory old new n counts is = absurd (never is)
failed_unstepped image.TooLarge old new n counts is = absurd (never is)

-- that there are too few is no fault of a device
pub failed_few : (way : Direction) (have : ℕ) → is_unseen_failed (too_few way have) ≡ true → ⊥
failed_few Undo have is = never is
failed_few Redo have is = never is

-- what is whole has not failed
pub failed_none : false ≡ true → ⊥
failed_none = never
