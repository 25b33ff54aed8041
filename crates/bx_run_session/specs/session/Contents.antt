-- What a task makes of the contents of an image, its journal and its redo text.
use Rattle.std.specs.Prelude.{◌≡◌, ◌↔◌, ◌⊎◌, ◌<◌, ◌≤◌, ◌^◌, ℕ, Option, None, Some, IfSome, List, [], Result, OnOk}
use Rattle.bx_image.specs.Power.{Only}
use Rattle.bx_image.specs.declared.device.Device.{Ghosts as DeviceViews}
use Rattle.bx_journal_store.specs.declared.store.TextStore.{Ghosts as StoreViews}
use Rattle.bx_journal_format.specs.Shown.{shown}
use Rattle.bx_journal.specs.Calls.{AfterFault, how_of}
use Rattle.bx_journal.specs.Fault.{DeviceFault}
use Rattle.bx_journal.specs.Images.{Images}
use Rattle.bx_journal.specs.Machine.{changes_of}
use Rattle.bx_journal.specs.Opening.{IsOpened, left_over}
use Rattle.bx_journal.specs.Stack.{StandsFor, recovered}
use Rattle.bx_journal.specs.Phase.{IsAtRest}
use Rattle.bx_journal.specs.Power.{Found, FoundBefore}
use Rattle.bx_journal.specs.Redo.{Finds, IsRedoOf, recovered_as}
use Rattle.bx_journal.specs.Text.{Reading, Reads}
use Rattle.bx_journal.specs.RecoveryOutcome.{RecoveryOutcome}
use Rattle.bx_journal.specs.RecoveryOutcome.TheVariants.{Clean}
use Rattle.bx_journal.specs.SessionFault.{SessionFault}
use Rattle.bx_journal.specs.Devices.{Devices}
use Rattle.bx_cli_commands.specs.Power.{images_of}
use Rattle.bx_cli_commands.specs.Standing.{Standing}
use Rattle.bx_cli_commands.specs.declared.command.Reply.{Reply}
use Rattle.bx_cli_commands.specs.declared.command.Reply.TheVariants.{Refused}
use Rattle.bx_cli_commands.specs.declared.fault.Fault.{Fault}
use Rattle.bx_cli_commands.specs.declared.fault.Fault.TheVariants.{Session}
use Rattle.bx_run_session.specs.declared.session.task.Task.{Task}
use Rattle.bx_run_session.specs.session.Task.{TaskStep}

-- What an image, its journal and its redo text hold
pub record Contents : Type 0 where
  pub image : List ℕ
  pub journal : List ℕ
  pub redo : List ℕ

-- the three hold these images: those that stand, and those that are undone
abbrev pub Holds : Contents → Images → Type 0
Holds c s = IsAtRest c.journal c.image s.stack × IsRedoOf c.redo c.image (changes_of s.stack) s.undone

-- opening finds these images in the three
abbrev pub FindsIn : Contents → Images → Type 0
FindsIn c s = Finds c.journal c.image c.redo s

-- opening finds these images in the three, which are all on the disk, as after a crash
abbrev pub FoundIn : Contents → Images → Type 0
FoundIn c s = Found c.journal c.image c.redo s

-- the three hold the images, or, where a task was stopped, opening finds them
abbrev pub EndsAt : Contents → Standing → Type 0
EndsAt c (Standing.Up s) = Holds c s
EndsAt c (Standing.Down s) = FindsIn c s

-- a task on three contents that hold images made the machine's step
abbrev pub StepsTo : {R : Type 0} → (R → Option (List ℕ)) → Images → Task R → Reply → Contents → Type 0
StepsTo remaining s task reply new = (after : Standing) × TaskStep remaining (Standing.Up s) task reply after × EndsAt new after

-- opening was refused by a device, or for want of memory
abbrev pub IsUnopened : Reply → Type 0
IsUnopened reply = (e : SessionFault) × (reply ≡ Refused (Session e)) × DeviceFault e

-- A task on three contents that hold images: its opening was refused, or it made the machine's step
abbrev pub Does : {R : Type 0} → (R → Option (List ℕ)) → Images → Task R → Reply → Contents → Type 0
Does remaining s task reply new = (IsUnopened reply × Holds new s) ⊎ StepsTo remaining s task reply new

-- A task on three contents in which opening finds images: it made the machine's step from what was recovered, or opening was refused, and
-- finds them again, behind an interruption without those that were undone
abbrev pub DoesFound : {R : Type 0} → (R → Option (List ℕ)) → Images → Task R → Option RecoveryOutcome → Reply → Contents → Type 0
DoesFound remaining s task (Some how) reply new = StepsTo remaining (recovered_as how s) task reply new
DoesFound remaining s task None reply new =
    (e : SessionFault) × (reply ≡ Refused (Session e)) × AfterFault e (FoundIn new (record { stack = s.stack; undone = [] })) (FoundIn new s)

-- Opening found something unfinished and dropped it, or took it back: what is left stands for what the journal reads as, and nothing is undone
pub record IsRecovered (how : RecoveryOutcome) (old new : Contents) : Type 0 where
  pub reading : Reading
  pub reads : Reads (shown old.journal) reading
  pub changes : ℕ
  pub opened : IsOpened old.journal old.image reading new.journal new.image how changes
  pub redo : new.redo ≡ []

-- A task that was refused leaves the three as they were, byte for byte, whatever they hold; or, where opening found something unfinished, as that
-- left them
abbrev pub Spared : Option RecoveryOutcome → Contents → Contents → Type 0
Spared None old new = new ≡ old
Spared (Some Clean) old new = new ≡ old
Spared (Some how) old new = IsRecovered how old new

-- the three stand for the images, be the journal sound or not
abbrev pub StandsIn : Contents → Images → Type 0
StandsIn c s = StandsFor c.journal c.image s.stack × IsRedoOf c.redo c.image (changes_of s.stack) s.undone

-- The images for which the three stand as their texts read, be they sound or not, once what is unfinished is recovered
pub record ReadAs (how : RecoveryOutcome) (c : Contents) (s : Images) : Type 0 where
  pub reading : Reading
  pub reads : Reads (shown c.journal) reading
  pub stack_is : s.stack ≡ recovered reading c.image
  pub undone : how ≡ Clean → IsRedoOf c.redo c.image (changes_of s.stack) s.undone
  pub none : (how ≡ Clean → ⊥) → s.undone ≡ []

-- A task that no device's failure refused, on three that opening took: it made the machine's step on the images for which they stand
pub record StepsRead {R : Type 0} (remaining : R → Option (List ℕ)) (task : Task R) (how : RecoveryOutcome) (reply : Reply) (old new : Contents) : Type 0 where
  pub before : Images
  pub next : Images
  pub read : ReadAs how old before
  pub step : TaskStep remaining (Standing.Up before) task reply (Standing.Up next)
  pub ends : StandsIn new next

-- What opening found unfinished is said, as the journal reads, whatever it holds; of three that hold images nothing is. A task that is done always tells
-- what was found
pub record TellsUnfinished {V : Type 0} (old : Contents) (how : Option RecoveryOutcome) (outcome : Result V Fault) : Type 0 where
  pub told : (r : Reading) → Reads (shown old.journal) r → IfSome how (λ h. h ≡ how_of r (left_over old.journal))
  pub none : (s : Images) → Holds old s → IfSome how (λ h. h ≡ Clean)
  pub some : OnOk outcome (how ≡ None → ⊥)

-- whatever is found of the three after a loss of power, opening finds these images, but none that is undone
abbrev pub LosesUndone : Images → (List ℕ → Type 0) → (List ℕ → Type 0) → (List ℕ → Type 0) → Type 0
LosesUndone s image journal redo = (x text redo_text : List ℕ) → image x → journal text → redo redo_text
    → Found text x redo_text (record { stack = s.stack; undone = [] })

-- whatever is found of the three after a loss of power, opening finds the images of an end of the task
abbrev pub Survives : {R : Type 0} → (R → Option (List ℕ)) → Images → Task R → Reply
    → (List ℕ → Type 0) → (List ℕ → Type 0) → (List ℕ → Type 0) → Type 0
Survives remaining s task reply image journal redo = (x text redo_text : List ℕ) → image x → journal text → redo redo_text
    → (after : Standing) × TaskStep remaining (Standing.Up s) task reply after × Found text x redo_text (images_of after)

-- the same of three in which opening finds images: of an end of the task from what was recovered, or, where opening was stopped in the middle, those
-- that it found, and none that is undone
abbrev pub SurvivesFound : {R : Type 0} → (R → Option (List ℕ)) → Images → Task R → Option RecoveryOutcome → Reply
    → (List ℕ → Type 0) → (List ℕ → Type 0) → (List ℕ → Type 0) → Type 0
SurvivesFound remaining s task (Some how) reply image journal redo = Survives remaining (recovered_as how s) task reply image journal redo
SurvivesFound remaining s task None reply image journal redo = LosesUndone s image journal redo

-- what three devices hold
abbrev pub held_by : {D T : Type 0} → DeviceViews D → StoreViews T → Devices D T → Contents
held_by d t x = record { image = d.image x.image; journal = t.text x.journal; redo = t.text x.redo }

-- the three devices are faithful
abbrev pub AreFaithful : {D T : Type 0} → DeviceViews D → StoreViews T → Devices D T → Type 0
AreFaithful d t x = d.faithful x.image × t.faithful x.journal × t.faithful x.redo

-- each device is faithful if it was
abbrev pub StayFaithful : {D T : Type 0} → DeviceViews D → StoreViews T → Devices D T → Devices D T → Type 0
StayFaithful d t old new = (d.faithful new.image ↔ d.faithful old.image) × (t.faithful new.journal ↔ t.faithful old.journal) × (t.faithful new.redo ↔ t.faithful old.redo)

-- no call of the three failed: failures count from 0, those of the redo text from 2 ^ 32
abbrev pub AreFresh : {D T : Type 0} → DeviceViews D → StoreViews T → Devices D T → Type 0
AreFresh d t x = (d.failures x.image ≡ 0) × (t.failures x.journal ≡ 0) × (t.failures x.redo ≡ 2 ^ 32)

-- each text stands in its place, as its count of failures tells
abbrev pub AreInPlace : {D T : Type 0} → DeviceViews D → StoreViews T → Devices D T → Type 0
AreInPlace d t x = (t.failures x.journal < 2 ^ 32) × (2 ^ 32 ≤ t.failures x.redo)

-- the three are on the disk as they are
pub record StayOnDisk (c : Contents) (found found_journal found_redo : List ℕ → Type 0) : Type 0 where
  pub image : Only c.image found
  pub journal : Only c.journal found_journal
  pub redo : Only c.redo found_redo

-- After a loss of power no more is found of three devices that a refused task left than before, whatever they hold; what was recovered is on the disk
pub record SparesDisk {D T : Type 0} (d : DeviceViews D) (t : StoreViews T) (how : Option RecoveryOutcome) (old new : Devices D T) : Type 0 where
  pub before : IfSome how (λ h. h ≡ Clean) → FoundBefore d t old new
  pub settled : (IfSome how (λ h. h ≡ Clean) → ⊥) → StayOnDisk (held_by d t new) (d.survives new.image) (t.survives new.journal) (t.survives new.redo)
