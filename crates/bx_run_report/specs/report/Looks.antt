-- What a person sees of the changes of an image, and why not.
use Rattle.std.specs.Prelude.{◌≡◌, ◌⊎◌, ℕ, Bool, false, List, Option, None, Some, Result, Ok, Err}
use Rattle.std.specs.List.{flat_map}
use Rattle.bx_text.specs.declared.fault.IoFault.TheVariants.{NoMemory as LacksMemory}
use Rattle.bx_journal.specs.Calls.{Differs, rows_of}
use Rattle.bx_journal.specs.Fault.{DeviceFault}
use Rattle.bx_journal.specs.Redo.{IsClean, RefusesRedoAt}
use Rattle.bx_journal.specs.Showing.{StopsLog}
use Rattle.bx_journal.specs.ShowFault.TheVariants as look
use Rattle.bx_journal.specs.ShownSteps.{HasEntries}
use Rattle.bx_journal.specs.ShownText.{ShowsText}
use Rattle.bx_journal.specs.Stack.{image_at}
use Rattle.bx_journal.specs.Steps.{Steps}
use Rattle.bx_journal.specs.SessionFault.{SessionFault}
use Rattle.bx_journal.specs.SessionFault.TheVariants.{Damaged, Interrupted, LengthDiffers, RedoDamaged}
use Rattle.bx_journal.specs.Direction.{Direction}
use Rattle.bx_journal.specs.Direction.TheVariants.{Undo, Redo}
use Rattle.bx_cli_commands.specs.Listing.{RefusesShowing, StopsListed, StopsListing, StopsShowing, StopsShownList, log_line}
use Rattle.bx_cli_commands.specs.declared.fault.Fault.{Fault}
use Rattle.bx_cli_commands.specs.declared.fault.Fault.TheVariants.{Io, Session}
use Rattle.bx_world.specs.World.{SystemState, held}
use Rattle.bx_world.specs.files.Reading.{MayRefuseReading}
use Rattle.bx_world.specs.declared.files.names.Names.{Names}
use Rattle.bx_world.specs.declared.files.unopened.OpenError.{OpenError as UnopenedFile}
use Rattle.bx_run_model.specs.Failures.{is_device_fault}
use Rattle.bx_run_report.specs.declared.report.error.ReportError.{ReportError}
use Rattle.bx_run_report.specs.declared.report.error.ReportError.TheVariants.{Unopened, Unfinished, Another, Stopped}

-- the journal is finished entries alone, and the log is a line for each, the oldest first
abbrev pub IsLogOf : List ℕ → List ℕ → Type 0
IsLogOf journal log = (whole : IsClean journal) × (log ≡ flat_map log_line (rows_of whole.0))

-- the text whose entries are stepped over: an undo steps over those of the journal, a redo over those of the redo text
abbrev pub stepped_text : Direction → List ℕ → List ℕ → List ℕ
stepped_text Undo journal redo = journal
stepped_text Redo journal redo = redo

-- the same steps, beside the changes that stand
abbrev pub steps_from : Steps → ℕ → Steps
steps_from s changes = record { way = s.way; count = s.count; changes = changes; compares = s.compares }

-- the same steps, as those of an undo
abbrev pub undos : Steps → Steps
undos s = record { way = Undo; count = s.count; changes = s.changes; compares = s.compares }

-- The steps that are asked for are written, where as many changes stand as the journal has entries
pub record IsNextShown (image journal redo : List ℕ) (s : Steps) (old new : Option (List ℕ)) : Type 0 where
  pub changes : ℕ
  pub standing : HasEntries journal changes
  pub shows : ShowsText (stepped_text s.way journal redo) image (steps_from s changes) old new

-- what an opening that was refused says: something is unfinished, where it was interrupted
abbrev pub unseen_of : SessionFault → ReportError
unseen_of Interrupted = Unfinished
unseen_of fault = Stopped (Session fault)

-- why a session is not opened: a text is damaged at the line, the image has another length than the journal tells, or memory or a device fails
abbrev pub StopsOpening : List ℕ → List ℕ → List ℕ → SessionFault → Type 0
StopsOpening image journal redo (Damaged line) = StopsLog (Unit {0}) journal (look.Text (Damaged line))
StopsOpening image journal redo (LengthDiffers expected) =
    (n : ℕ) (has : HasEntries journal n) → Differs has.0.entries (image_at has.0.stage image) expected
StopsOpening image journal redo (RedoDamaged line) = RefusesRedoAt journal image redo line
StopsOpening image journal redo fault = DeviceFault fault

-- the same, or a growth was refused
abbrev pub StopsLook : List ℕ → List ℕ → List ℕ → Fault → Type 0
StopsLook image journal redo (Session fault) = StopsOpening image journal redo fault
StopsLook image journal redo (Io LacksMemory) = Unit {0}
StopsLook image journal redo fault = ⊥

-- why changes are not seen in files that are open: the journal is not finished entries alone, or such a fault
abbrev pub HidesChanges : List ℕ → List ℕ → List ℕ → ReportError → Type 0
HidesChanges image journal redo (Unopened file) = ⊥
HidesChanges image journal redo Unfinished = IsClean journal → ⊥
HidesChanges image journal redo Another = ⊥
HidesChanges image journal redo (Stopped fault) = StopsLook image journal redo fault

-- Why the changes of an image are not seen: a file may not be opened, something is unfinished, or a text is damaged, the image has another
-- length, or memory or a device fails
abbrev pub MayNotLook : Names → Type 0 → SystemState → ReportError → Type 0
MayNotLook names counted w (Unopened file) = MayRefuseReading names counted w file
MayNotLook names counted w unseen = HidesChanges (held w names.image) (held w names.journal) (held w names.redo) unseen

-- nothing is seen, and nothing is written; or what is written is cut off
abbrev pub IsUnseenOr : Type 0 → Option (List ℕ) → Option (List ℕ) → Type 0 → Type 0
IsUnseenOr hidden old new cut = (hidden × (new ≡ old)) ⊎ cut

-- the list of ranges was stopped, and why: a front of it is written
abbrev pub IsListCut : List ℕ → Option (List ℕ) → Option (List ℕ) → ReportError → Type 0
IsListCut journal old new (Stopped fault) = StopsListing (Unit {0}) journal fault × StopsListed journal old new fault
IsListCut journal old new unseen = ⊥

-- the steps over a text were stopped, and why: a front of them is written, and nothing where the text or their number is refused
abbrev pub AreStepsCut : List ℕ → List ℕ → Steps → Option (List ℕ) → Option (List ℕ) → ReportError → Type 0
AreStepsCut text image s old new (Stopped fault) =
    StopsShowing (Unit {0}) text s fault × (RefusesShowing fault → new ≡ old) × StopsShownList text image s old new fault
AreStepsCut text image s old new unseen = ⊥

-- the steps that are asked for were stopped, where as many changes stand as the journal has entries
abbrev pub IsNextCut : List ℕ → List ℕ → List ℕ → Steps → Option (List ℕ) → Option (List ℕ) → ReportError → Type 0
IsNextCut image journal redo s old new unseen =
    (changes : ℕ) × HasEntries journal changes × AreStepsCut (stepped_text s.way journal redo) image (steps_from s changes) old new unseen

-- the file that a look did not open; none where it opened all
abbrev pub unopened_in : {V : Type 0} → Result V ReportError → Option UnopenedFile
unopened_in (Err (Unopened file)) = Some file
unopened_in outcome = None

-- whether a look is stopped by the fault of a device; that something is unfinished is none
abbrev pub is_unseen_failed : ReportError → Bool
is_unseen_failed (Stopped fault) = is_device_fault fault
is_unseen_failed unseen = false

-- whether a look ended so
abbrev pub is_look_failed : {V : Type 0} → Result V ReportError → Bool
is_look_failed (Ok v) = false
is_look_failed (Err unseen) = is_unseen_failed unseen

-- Why a log with ranges is stopped: the changes are not seen, and nothing is written; or a front of it is
abbrev pub StopsRangesOf : Names → Type 0 → SystemState → Option (List ℕ) → Option (List ℕ) → ReportError → Type 0
StopsRangesOf names counted w old new unseen =
    IsUnseenOr (MayNotLook names counted w unseen) old new (IsListCut (held w names.journal) old new unseen)

-- Why the next steps are not shown: the changes are not seen, and nothing is written; or a front of the steps is
abbrev pub StopsNextSteps : Names → Type 0 → SystemState → Steps → Option (List ℕ) → Option (List ℕ) → ReportError → Type 0
StopsNextSteps names counted w s old new unseen = IsUnseenOr (MayNotLook names counted w unseen) old new
    (IsNextCut (held w names.image) (held w names.journal) (held w names.redo) s old new unseen)

-- a file may not be opened
abbrev pub IsNotOpened : Names → Type 0 → SystemState → ReportError → Type 0
IsNotOpened names counted w (Unopened file) = MayRefuseReading names counted w file
IsNotOpened names counted w unseen = ⊥

-- Why the undos of an unfinished journal are not shown: a file may not be opened, and nothing is written; or a front of them is
abbrev pub StopsUndos : Names → Type 0 → SystemState → Steps → Option (List ℕ) → Option (List ℕ) → ReportError → Type 0
StopsUndos names counted w s old new unseen = IsUnseenOr (IsNotOpened names counted w unseen) old new
    (AreStepsCut (held w names.journal) (held w names.image) (undos s) old new unseen)
