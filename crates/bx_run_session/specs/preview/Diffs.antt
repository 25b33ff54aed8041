-- The patch from one named file to another.
use Rattle.std.specs.Prelude.{◌≡◌, ℕ, Bool, false, List, Option, Result, Err}
use Rattle.std.specs.Io.KnownBytes.{Appends}
use Rattle.bx_patch.specs.Diff.{IsFaultFor, WritesPrefix}
use Rattle.bx_patch.specs.Text.{patch_text}
use Rattle.bx_patch.specs.declared.diff.row.Extent.{Extent}
use Rattle.bx_world.specs.World.{SystemState}
use Rattle.bx_world.specs.files.Reading.{AreBytesOf, MayNotRead}
use Rattle.bx_run_model.specs.Failures.{is_read_failure}
use Rattle.bx_run_session.specs.declared.preview.diff.DiffError.{DiffError}
use Rattle.bx_run_session.specs.declared.preview.diff.DiffError.TheVariants.{OldUnopened, NewUnopened, Stopped}

-- the names lead to files with these bytes
abbrev pub AreBytesOfBoth : List ℕ → List ℕ → SystemState → List ℕ → List ℕ → Type 0
AreBytesOfBoth old_name new_name w x y = AreBytesOf old_name w x × AreBytesOf new_name w y

-- the text of the patch from the bytes of one file to those of another was written
abbrev pub WritesDiff : Extent → List ℕ → List ℕ → SystemState → Option (List ℕ) → Option (List ℕ) → Type 0
WritesDiff extent old_name new_name w old new = (x y : List ℕ) × AreBytesOfBoth old_name new_name w x y × Appends old new (patch_text extent x y)

-- why it was not: a file was not opened, and nothing was written; or a fault stopped the comparison, and a prefix of the text was
abbrev pub StopsDiff : Extent → List ℕ → List ℕ → Type 0 → SystemState → Option (List ℕ) → Option (List ℕ) → DiffError → Type 0
StopsDiff extent old_name new_name counted w old new (OldUnopened why) = MayNotRead old_name counted w why × (new ≡ old)
StopsDiff extent old_name new_name counted w old new (NewUnopened why) = MayNotRead new_name counted w why × (new ≡ old)
StopsDiff extent old_name new_name counted w old new (Stopped fault) = (x y : List ℕ) × AreBytesOfBoth old_name new_name w x y
    × WritesPrefix old new (patch_text extent x y) fault × IsFaultFor x y fault

-- whether a file that was open could not be read
abbrev pub is_diff_failed : {V : Type 0} → Result V DiffError → Bool
is_diff_failed (Err (Stopped fault)) = is_read_failure fault
is_diff_failed outcome = false
