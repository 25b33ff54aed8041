-- Two devices that are compared: what is counted where one of them stopped it.
use Rattle.std.proofs.Common.{◌≡◌, ◌+◌, ◌<◌, ℕ, Bool, true, false, arith, refl, sym}
use Rattle.std.specs.Prelude.{Result, Ok, Err, if◌then◌else◌}
use Rattle.bx_image.specs.declared.device.Device.{Ghosts as DeviceViews}
use Rattle.bx_patch.specs.Diff.{OnlyReads, fails, of_new, of_old}
use Rattle.bx_patch.specs.declared.diff.fault.DiffFault.{DiffFault}
use Rattle.bx_patch.specs.declared.diff.fault.DiffFault.TheVariants.{NewFailed, OldFailed}
use Rattle.bx_patch.specs.preview.Changed.{Changed, faithful_behind, failures_behind, found_behind, image_behind, room_behind}
use Rattle.bx_patch.proofs.RefusedLemmas.{still_none}
use Rattle.bx_run_model.specs.Failures.{is_read_failure}

never : false ≡ true → ⊥
never is = cc

-- one of them has failed where the comparison says so
pub failed_comparison : {T : Type 0} (r : Result T DiffFault) (old old_new new new_new : ℕ)
    → old_new ≡ (if fails of_old r then old + 1 else old) → new_new ≡ (if fails of_new r then new + 1 else new)
    → fails is_read_failure r ≡ true → 0 < old_new + new_new
failed_comparison (Ok t) old old_new new new_new first second is = absurd (never is)
failed_comparison (Err OldFailed) old old_new new new_new first second is = omega arith
failed_comparison (Err NewFailed) old old_new new new_new first second is = omega arith
failed_comparison (Err fault) old old_new new new_new first second is = absurd (never is)

-- the first one has, where it wasn't the second one
pub failed_first : {T : Type 0} (r : Result T DiffFault) (old new : ℕ) → new ≡ (if fails of_old r then old + 1 else old)
    → fails is_read_failure r ≡ true → fails of_new r ≡ false → 0 < new
failed_first (Ok t) old new counts is calm = absurd (never is)
failed_first (Err OldFailed) old new counts is calm = omega arith
failed_first (Err NewFailed) old new counts is calm = absurd (never (sym calm))
failed_first (Err fault) old new counts is calm = absurd (never is)

-- Of an image behind changes on a device.
module _ {D A : Type 0} (d : DeviceViews D) where
  -- which is only read, beside another one: where it has failed, so has the device within, and else the other one
  pub failed_behind : (failed stopped : Bool) (old new : Changed D A) (n within : ℕ)
      → OnlyReads (faithful_behind d) (image_behind d) room_behind failures_behind (found_behind d) failed old new
      → faithful_behind d old → old.refused ≡ false → (new.refused ≡ false → within ≡ new.failures)
      → (stopped ≡ true → failed ≡ false → 0 < n) → stopped ≡ true → 0 < n + within
  failed_behind true stopped old new n within reads faithful none counts other is =
      let same = counts (still_none d old new true faithful none reads) in
      let one = reads.goes_on.counted in
      omega (arith, same, one)
  failed_behind false stopped old new n within reads faithful none counts other is = let some = other is refl in omega (arith, some)
