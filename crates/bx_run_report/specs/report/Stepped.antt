-- The patch of what the next undos or redos would do.
use Rattle.std.specs.Prelude.{◌≡◌, ◌<◌, ◌≤◌, ℕ, List, Option, length}
use Rattle.std.specs.Io.KnownBytes.{Appends}
use Rattle.bx_text.specs.declared.fault.IoFault.TheVariants as stream
use Rattle.bx_image.specs.declared.device.Device.{Ghosts as DeviceViews}
use Rattle.bx_image.specs.declared.device.ImageFault.{ImageFault}
use Rattle.bx_image.specs.declared.device.ImageFault.TheVariants as image
use Rattle.bx_patch.specs.Diff.{WritesPrefix}
use Rattle.bx_patch.specs.Text.{patch_text}
use Rattle.bx_patch.specs.declared.diff.fault.DiffFault.{DiffFault}
use Rattle.bx_patch.specs.declared.diff.fault.DiffFault.TheVariants.{NoMemory, TooLarge, OldFailed, NewFailed, WriteFailed}
use Rattle.bx_patch.specs.declared.diff.row.Extent.TheVariants.{Bytes}
use Rattle.bx_journal_store.specs.declared.store.TextStore.{Ghosts as StoreViews}
use Rattle.bx_journal.specs.Images.{Images, redo_of, undo_of}
use Rattle.bx_journal.specs.Machine.{changes_of, top}
use Rattle.bx_journal.specs.Redo.{IsRedoOf}
use Rattle.bx_journal.specs.SessionFault.TheVariants as session
use Rattle.bx_journal.specs.SessionView.{SessionView, devices_of}
use Rattle.bx_journal.specs.Stack.{StandsFor}
use Rattle.bx_journal.specs.Direction.{Direction}
use Rattle.bx_journal.specs.Direction.TheVariants.{Undo, Redo}
use Rattle.bx_cli_commands.specs.declared.fault.Fault.TheVariants.{Io, Session}
use Rattle.bx_world.specs.World.{SystemState, held}
use Rattle.bx_world.specs.declared.files.names.Names.{Names}
use Rattle.bx_run_report.specs.report.Devices.{HoldBytes}
use Rattle.bx_run_report.specs.report.Looks.{IsUnseenOr, MayNotLook}
use Rattle.bx_run_report.specs.declared.report.error.ReportError.{ReportError}
use Rattle.bx_run_report.specs.declared.report.error.ReportError.TheVariants.{Stopped}

-- An image, its journal and its redo text hold these images: those that stand, and those that are undone
pub record HoldImages (image journal redo : List ℕ) (s : Images) : Type 0 where
  pub stack : StandsFor journal image s.stack
  pub undone : IsRedoOf redo image (changes_of s.stack) s.undone

-- the three hold images, and it is so of them, whichever they are
pub record OfImages (image journal redo : List ℕ) (holds : Images → Type 0) : Type 0 where
  pub some : (s : Images) × HoldImages image journal redo s
  pub each : (s : Images) → HoldImages image journal redo s → holds s

-- how many changes can be taken back, or made again
abbrev pub steps_in : Direction → Images → ℕ
steps_in Undo s = changes_of s.stack
steps_in Redo s = length s.undone

-- the images behind the machine's undo of k, or its redo of k
abbrev pub behind_steps : Direction → ℕ → Images → Images
behind_steps Undo k s = undo_of k s
behind_steps Redo k s = redo_of k s

-- the patch between the image that is there and the one behind the steps: it makes the newer one of the older one
abbrev pub patch_between : Direction → List ℕ → List ℕ → List ℕ
patch_between Undo there behind = patch_text Bytes behind there
patch_between Redo there behind = patch_text Bytes there behind

-- the patch of k steps
abbrev pub steps_patch : Direction → ℕ → Images → List ℕ
steps_patch way k s = patch_between way (top s.stack) (top (behind_steps way k s).stack)

-- the patch of k steps is written, and there are as many
abbrev pub WritesSteps : Direction → ℕ → Images → Option (List ℕ) → Option (List ℕ) → Type 0
WritesSteps way k s old new = (k ≤ steps_in way s) × Appends old new (steps_patch way k s)

-- what is said where a patch isn't written whole
abbrev pub stopped_by : DiffFault → ReportError
stopped_by NoMemory = Stopped (Io stream.NoMemory)
stopped_by TooLarge = Stopped (Session session.TooLarge)
stopped_by OldFailed = Stopped (Session session.DeviceFailed)
stopped_by NewFailed = Stopped (Session session.DeviceFailed)
stopped_by (WriteFailed written) = Stopped (Io (stream.WriteFailed written))

-- what stops a patch where there is no image behind the steps
abbrev pub unchanged_by : ImageFault → DiffFault
unchanged_by image.NoMemory = NoMemory
unchanged_by image.TooLarge = TooLarge
unchanged_by image.DeviceFailed = OldFailed

-- what is said where there are too few changes
abbrev pub too_few : Direction → ℕ → ReportError
too_few Undo have = Stopped (Session (session.TooFew have))
too_few Redo have = Stopped (Session (session.NothingToRedo have))

-- a prefix of the patch was written, and it is said what stopped it
abbrev pub IsPatchCut : List ℕ → Option (List ℕ) → Option (List ℕ) → ReportError → Type 0
IsPatchCut text old new unseen = (fault : DiffFault) × (unseen ≡ stopped_by fault) × WritesPrefix old new text fault

-- there are fewer changes, and it is said how many
abbrev pub AreTooFew : Direction → ℕ → Images → ReportError → Type 0
AreTooFew way k s unseen = (steps_in way s < k) × (unseen ≡ too_few way (steps_in way s))

-- The patch of k steps isn't written whole: there are fewer changes, and nothing is written; or a prefix of it is
abbrev pub IsStepsCut : Direction → ℕ → Images → Option (List ℕ) → Option (List ℕ) → ReportError → Type 0
IsStepsCut way k s old new unseen =
    IsUnseenOr (AreTooFew way k s unseen) old new ((k ≤ steps_in way s) × IsPatchCut (steps_patch way k s) old new unseen)

-- a session counts the images that stand, and those that are undone
pub record CountsImages {D T : Type 0} (s : Images) (v : SessionView D T) : Type 0 where
  pub count : v.count ≡ changes_of s.stack
  pub undone : v.undone ≡ length s.undone

-- a device is faithful, and holds this image
abbrev pub HoldsImage : {D : Type 0} → DeviceViews D → List ℕ → D → Type 0
HoldsImage d x device = d.faithful device × (d.image device ≡ x)

-- The devices of a session, and one more of the image, hold these images, and the session counts them
pub record HoldCounted {D T : Type 0} (d : DeviceViews D) (t : StoreViews T) (image journal redo : List ℕ) (s : Images) (v : SessionView D T)
    (again : D) : Type 0 where
  pub devices : HoldBytes d t image journal redo (devices_of v)
  pub images : HoldImages image journal redo s
  pub counted : CountsImages s v
  pub copy : HoldsImage d image again

-- the three hold images, and a session counts them
abbrev pub CountsHeld : {D T : Type 0} → List ℕ → List ℕ → List ℕ → SessionView D T → Type 0
CountsHeld image journal redo v = (s : Images) × HoldImages image journal redo s × CountsImages s v

-- it is so of the images that the files of these names hold
abbrev pub OfNamed : Names → SystemState → (Images → Type 0) → Type 0
OfNamed names w holds = OfImages (held w names.image) (held w names.journal) (held w names.redo) holds

-- Why the patch of the next steps isn't shown: the changes are not seen, and nothing is written; or it isn't written whole
abbrev pub StopsPatch : Names → Type 0 → SystemState → Direction → ℕ → Option (List ℕ) → Option (List ℕ) → ReportError → Type 0
StopsPatch names counted w way k old new unseen =
    IsUnseenOr (MayNotLook names counted w unseen) old new (OfNamed names w (λ s. IsStepsCut way k s old new unseen))
