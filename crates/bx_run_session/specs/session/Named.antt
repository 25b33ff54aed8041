-- What one task makes of the files of an image, and of all others.
use Rattle.std.specs.Prelude.{◌≡◌, ◌⊎◌, ◌<◌, ◌≤◌, ℕ, Bool, true, false, Option, None, Some, IfSome, List, []}
use Rattle.std.specs.Option.{option_map_or}
use Rattle.bx_world.specs.World.{NothingNewBelow, SystemState, Trio, held}
use Rattle.bx_world.specs.files.Files.{LeadsToMade, LeavesFiles}
use Rattle.bx_world.specs.files.Reasons.{MayRefuseOpening}
use Rattle.bx_world.specs.declared.files.guard.Guard.{Guard}
use Rattle.bx_world.specs.declared.files.names.Names.{Names}
use Rattle.bx_world.specs.declared.files.unopened.OpenError.{OpenError}
use Rattle.bx_journal.specs.Images.{Images}
use Rattle.bx_journal.specs.RecoveryOutcome.{RecoveryOutcome}
use Rattle.bx_journal.specs.RecoveryOutcome.TheVariants.{Clean}
use Rattle.bx_cli_commands.specs.Refusal.{IsWholeRefusal}
use Rattle.bx_cli_commands.specs.Standing.{Standing}
use Rattle.bx_cli_commands.specs.declared.command.Command.TheVariants.{Undo}
use Rattle.bx_cli_commands.specs.declared.command.Reply.{Reply}
use Rattle.bx_cli_commands.specs.declared.command.Reply.TheVariants.{Refused}
use Rattle.bx_cli_commands.specs.declared.fault.Fault.TheVariants.{OpenFailed}
use Rattle.bx_run_session.specs.declared.session.task.Task.{Task}
use Rattle.bx_run_session.specs.declared.session.task.Task.TheVariants.{Run}
use Rattle.bx_run_session.specs.declared.session.named.Answer.{Answer}
use Rattle.bx_run_session.specs.session.Contents.{StayOnDisk, Contents, FoundIn, Holds, IsUnopened, Spared, Survives, SurvivesFound}
use Rattle.bx_run_session.specs.session.Guarded.{MayBeAnother, WereOpened, another}
use Rattle.bx_run_session.specs.session.Task.{TaskStep}

-- what the files of these numbers hold
abbrev pub bytes_of_files : Trio → SystemState → Contents
bytes_of_files t w = record { image = w.bytes t.image; journal = w.bytes t.journal; redo = w.bytes t.redo }

-- what the files of these names hold; one that is missing holds nothing
abbrev pub contents_of : Names → SystemState → Contents
contents_of names w = record { image = held w names.image; journal = held w names.journal; redo = held w names.redo }

-- the names lead to these files
pub record LeadTo (names : Names) (t : Trio) (w : SystemState) : Type 0 where
  pub image : w.named names.image ≡ Some t.image
  pub journal : w.named names.journal ≡ Some t.journal
  pub redo : w.named names.redo ≡ Some t.redo

-- one of these names leads to the file
abbrev pub IsNamedBy : Names → SystemState → ℕ → Type 0
IsNamedBy names w n = (w.named names.image ≡ Some n) ⊎ (w.named names.journal ≡ Some n) ⊎ (w.named names.redo ≡ Some n)

-- No file that was there holds other bytes but those of these names, none has another owner or other permissions, and each name that led to a
-- file leads to it still. No other name leads to a file that was made, unless the system refused to take one away; or it was a link to one of these
-- that was missing
pub record KeepsOthers (names : Names) (old new : SystemState) : Type 0 where
  pub bytes : (n : ℕ) → n < old.there → (old.named names.image ≡ Some n → ⊥) → (old.named names.journal ≡ Some n → ⊥)
      → (old.named names.redo ≡ Some n → ⊥) → new.bytes n ≡ old.bytes n
  pub stat : (n : ℕ) → n < old.there → new.stat n ≡ old.stat n
  pub named : (m : List ℕ) (n : ℕ) → old.named m ≡ Some n → new.named m ≡ Some n
  pub made : new.stuck ≡ old.stuck → (m : List ℕ) → LeadsToMade (IsNamedBy names new) (old.named m) (new.named m)
  pub stuck : old.stuck ≤ new.stuck

-- no file has the name
abbrev pub is_missing : List ℕ → SystemState → Bool
is_missing name w = option_map_or (λ n. false) (w.named name) true

-- Why a task on named files isn't begun: a file isn't opened; or the image is another one than the journal was written beside, by the line that
-- the note has
abbrev pub MayRefuseTask : {R : Type 0} → Guard → Bool → List ℕ → Task R → Names → Type 0 → SystemState → OpenError → Type 0
MayRefuseTask guard makes note task names counted w u =
    MayRefuseOpening names guard.mounted makes counted w u
    ⊎ ((u ≡ another) × MayBeAnother guard (is_missing names.image w) note (contents_of names w) task)

-- the task of an opening that changes nothing but what it recovers: an undo of no change
abbrev pub no_change : {R : Type 0} → Task R
no_change = Run (Undo 0)

-- texts that were missing, and were left empty, aren't there, unless the system refused to take a file away
pub record AreNotLeft (names : Names) (old behind new : SystemState) : Type 0 where
  pub journal : old.named names.journal ≡ None → new.stuck ≡ old.stuck → held behind names.journal ≡ [] → new.named names.journal ≡ None
  pub redo : old.named names.redo ≡ None → new.stuck ≡ old.stuck → held behind names.redo ≡ [] → new.named names.redo ≡ None

-- A change leaves all files but the three as they were; and an undo of no change leaves no text that was missing
pub record LeavesRest {R : Type 0} (names : Names) (task : Task R) (old new : SystemState) : Type 0 where
  pub others : KeepsOthers names old new
  pub texts : task ≡ no_change → AreNotLeft names old new new

-- opening found finished entries alone, or was refused
abbrev pub IsUnrecovered : Option RecoveryOutcome → Type 0
IsUnrecovered how = IfSome how (λ h. h ≡ Clean)

-- no line was left in the note behind a task: it is as it was, or there is none, unless the system refused a call that is counted
abbrev pub IsNoteCleared : Type 0 → List ℕ → List ℕ → Type 0
IsNoteCleared counted old new = (new ≡ old) ⊎ (new ≡ []) ⊎ counted

-- What a task leaves of the note: one that wasn't begun leaves it as it was. One that was refused whole, with nothing recovered, leaves no line of its own
-- where the note had no bytes before, or the journal was missing
pub record ClearsNote (whole : Type 0) (unopened : Option OpenError) (how : Option RecoveryOutcome) (missing : Bool) (counted : Type 0) (old new : List ℕ)
    : Type 0 where
  pub unbegun : IfSome unopened (λ _. new ≡ old)
  pub cleared : whole → IsUnrecovered how → (old ≡ []) ⊎ (missing ≡ true) → IsNoteCleared counted old new

-- Files weren't opened: the task is refused for that, nothing was recovered, and all files are as they were
abbrev pub NothingDone : Reply → Option RecoveryOutcome → SystemState → SystemState → Type 0
NothingDone reply how old new = (reply ≡ Refused OpenFailed) × (how ≡ None) × LeavesFiles old new

-- A task was refused: all files are as they were, byte for byte, whatever they held, unless opening found something unfinished; the three, where they
-- were opened, hold what they held, or what that left
pub record LeavesRefused (names : Names) (unopened : Option OpenError) (how : Option RecoveryOutcome) (old new : SystemState) : Type 0 where
  pub files : IsUnrecovered how → LeavesFiles old new
  pub contents : WereOpened unopened → Spared how (contents_of names old) (contents_of names new)

-- Whatever is found after a loss of power behind a task: opening finds the images of an end of it, from those that the files held, or from what was
-- recovered of those that opening found. Behind one that was refused no more is found of any file that was there than before, whatever it held; or, where
-- something was recovered, the three are on the disk as they are
pub record SurvivesTask {R : Type 0} (remaining : R → Option (List ℕ)) (names : Names) (task : Task R) (answer : Answer) (old new : SystemState)
    (found left : ℕ → List ℕ → Type 0) : Type 0 where
  pub holds : (s : Images) → Holds (contents_of names old) s → (IsWholeRefusal answer.reply → ⊥) → (t : Trio) → LeadTo names t new
      → Survives remaining s task answer.reply (left t.image) (left t.journal) (left t.redo)
  pub finds : (s : Images) → FoundIn (contents_of names old) s → (IsWholeRefusal answer.reply → ⊥) → (t : Trio) → LeadTo names t new
      → SurvivesFound remaining s task answer.how answer.reply (left t.image) (left t.journal) (left t.redo)
  pub refused : IsWholeRefusal answer.reply → IsUnrecovered answer.how → NothingNewBelow old.there found left
  pub settled : IsWholeRefusal answer.reply → (IsUnrecovered answer.how → ⊥) → (t : Trio) → LeadTo names t new
      → StayOnDisk (contents_of names new) (left t.image) (left t.journal) (left t.redo)

-- Why a task on files that were opened was refused: a device or want of memory stopped the opening, or the machine refuses it
abbrev pub MayRefuse : {R : Type 0} → (R → Option (List ℕ)) → Images → Task R → Reply → Type 0
MayRefuse remaining s task reply = IsUnopened reply ⊎ ((after : Standing) × TaskStep remaining (Standing.Up s) task reply after)
