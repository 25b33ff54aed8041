-- What a person sees of an undo and of a redo: files and standard output.
use Rattle.std.specs.Prelude.{◌≡◌, ◌⊎◌, ◌<◌, ◌≤◌, ◌+◌, ◌-◌, ◌++◌, ℕ, List, [], Option, None, Some, Result, Ok, Err, codes, decimal, length, take}
use Rattle.std.specs.Result.{MatchResult}
use Rattle.std.specs.declared.io.impls.Empty.{Empty}
use Rattle.bx_text.specs.declared.fault.IoFault.TheVariants.{WriteFailed}
use Rattle.bx_world.specs.World.{NothingNewBelow, SystemState, Trio, AddsFront}
use Rattle.bx_world.specs.files.Files.{LeavesFiles}
use Rattle.bx_world.specs.declared.files.names.Names.{Names}
use Rattle.bx_world.specs.declared.files.unopened.OpenError.{OpenError}
use Rattle.bx_journal.specs.Calls.{AfterFault}
use Rattle.bx_journal.specs.Images.{Images, redo_of, undo_of}
use Rattle.bx_journal.specs.Machine.{changes_of}
use Rattle.bx_journal.specs.Power.{Found}
use Rattle.bx_journal.specs.RecoveryOutcome.{RecoveryOutcome}
use Rattle.bx_journal.specs.RecoveryOutcome.TheVariants.{Clean, Dropped, Restored}
use Rattle.bx_journal.specs.Direction.{Direction}
use Rattle.bx_journal.specs.Direction.TheVariants.{Redo as Onward, Undo as Backward}
use Rattle.bx_journal.specs.SessionFault.{SessionFault}
use Rattle.bx_journal.specs.SessionFault.TheVariants.{DeviceFailed, Interrupted, NoMemory, NothingToRedo, TooFew}
use Rattle.bx_journal.specs.Redo.{recovered_as}
use Rattle.bx_cli_commands.specs.declared.command.Command.{Command}
use Rattle.bx_cli_commands.specs.declared.command.Command.TheVariants.{Redo, Undo}
use Rattle.bx_cli_commands.specs.declared.fault.Fault.{Fault}
use Rattle.bx_cli_commands.specs.declared.fault.Fault.TheVariants.{Io, OpenFailed, Session}
use Rattle.bx_run_session.specs.session.Contents.{StayOnDisk, Contents, FindsIn, FoundIn, Holds, LosesUndone, ReadAs, StandsIn}
use Rattle.bx_run_session.specs.session.Named.{IsUnrecovered, LeadTo, LeavesRefused, contents_of}
use Rattle.bx_run_session.specs.declared.session.moves.Moved.{Moved}
use Rattle.bx_run_session.specs.declared.session.task.Task.{Task}
use Rattle.bx_run_session.specs.declared.session.task.Task.TheVariants.{Run}

-- Changes that are moved one by one, taken back or made again: how many there are, the fault where more are asked for, the images behind the
-- first i of them, and how many changes then stand
pub record Course : Type 0 where
  pub most : ℕ
  pub lacks : SessionFault
  pub moved : ℕ → Images
  pub left : ℕ → ℕ

-- the changes that stand, taken back
abbrev pub back : Images → Course
back s = record { most = changes_of s.stack; lacks = TooFew (changes_of s.stack); moved = λ i. undo_of i s; left = λ i. changes_of s.stack - i }

-- the changes that are undone, made again
abbrev pub again : Images → Course
again s = record { most = length s.undone; lacks = NothingToRedo (length s.undone); moved = λ i. redo_of i s; left = λ i. changes_of s.stack + i }

-- the changes that are moved one way
abbrev pub stepped : Direction → Images → Course
stepped Backward s = back s
stepped Onward s = again s

-- the command that moves k changes one way
abbrev pub command_by : {R A : Type 0} → Direction → ℕ → Command R A
command_by Backward k = Undo k
command_by Onward k = Redo k

-- the task that does
abbrev pub task_of : Direction → ℕ → Task Empty
task_of way k = Run (command_by way k)

-- k changes were moved: the contents hold where that leads, and `left` changes stand
pub record IsMoved (k : ℕ) (course : Course) (left : ℕ) (new : Contents) : Type 0 where
  pub enough : k ≤ course.most
  pub left_is : left ≡ course.left k
  pub files : Holds new (course.moved k)

-- what is said on standard error of what opening found unfinished
abbrev pub recovered_line : Option RecoveryOutcome → List ℕ
recovered_line None = []
recovered_line (Some Clean) = []
recovered_line (Some Dropped) = codes "bx: recovered: an unfinished entry was dropped\n"
recovered_line (Some (Restored number)) = codes "bx: recovered: change " ++ decimal number ++ codes " was taken back\n"

-- what opening found unfinished is said on standard error, as far as that can be written
abbrev pub TellsRecovered : Option RecoveryOutcome → List ℕ → List ℕ → Type 0
TellsRecovered how old new = (n : ℕ) × (new ≡ old ++ take n (recovered_line how))

-- files weren't opened: the fault says so, nothing was recovered, and all files are as they were
abbrev pub NothingMoved : {V : Type 0} → Moved V → SystemState → SystemState → Type 0
NothingMoved moved old new = (moved.outcome ≡ Err OpenFailed) × (moved.how ≡ None) × LeavesFiles old new

-- a number on a line of its own
abbrev pub number_line : ℕ → List ℕ
number_line n = decimal n ++ codes "\n"

-- k changes were moved: the files hold where that leads, and the number of changes that stand is written
pub record Moves (names : Names) (k : ℕ) (course : Course) (old new : SystemState) : Type 0 where
  pub enough : k ≤ course.most
  pub files : Holds (contents_of names new) (course.moved k)
  pub output : new.output ≡ old.output ++ number_line (course.left k)

-- why the moving of k changes may be refused, with files that are open: a device or want of memory stopped it, or there are fewer
abbrev pub MayNotMove : ℕ → Course → Fault → Type 0
MayNotMove k course (Session NoMemory) = Unit {0}
MayNotMove k course (Session DeviceFailed) = Unit {0}
MayNotMove k course (Session Interrupted) = Unit {0}
MayNotMove k course (Session e) = (course.most < k) × (e ≡ course.lacks)
MayNotMove k course e = ⊥

-- The moving of k changes was refused: interrupted, opening finds the images behind some of them; else all files are as they were. That files
-- weren't opened is said with the one that wasn't.
abbrev pub RefusesMove : Names → ℕ → Course → Option OpenError → SystemState → SystemState → Fault → Type 0
RefusesMove names k course unopened old new (Session Interrupted) = (i : ℕ) × (i ≤ k) × FindsIn (contents_of names new) (course.moved i)
RefusesMove names k course unopened old new OpenFailed = (unopened ≡ None → ⊥) × LeavesFiles old new
RefusesMove names k course unopened old new e = MayNotMove k course e × LeavesFiles old new

-- The moving of k changes from images that opening found was refused: interrupted, opening finds those behind some of them; else the contents hold
-- the images, which are what was recovered
abbrev pub RefusesRecovered : ℕ → Course → Contents → Fault → Type 0
RefusesRecovered k course new (Session Interrupted) = (i : ℕ) × (i ≤ k) × FindsIn new (course.moved i)
RefusesRecovered k course new e = MayNotMove k course e × Holds new (course.moved 0)

-- opening was refused: it finds the images again, behind an interruption none that is undone
abbrev pub IsUnfound : {V : Type 0} → Images → Result V Fault → Contents → Type 0
IsUnfound s outcome new = (e : SessionFault) × (outcome ≡ Err (Session e))
    × AfterFault e (FoundIn new (record { stack = s.stack; undone = [] })) (FoundIn new s)

-- k changes of contents in which opening finds images: they were moved, or not, from what was recovered; or opening was refused
abbrev pub MovedFound : ℕ → Direction → Images → Option RecoveryOutcome → Result ℕ Fault → Contents → Type 0
MovedFound k way s (Some how) outcome new =
    MatchResult outcome (λ left. IsMoved k (stepped way (recovered_as how s)) left new) (RefusesRecovered k (stepped way (recovered_as how s)) new)
MovedFound k way s None outcome new = IsUnfound s outcome new

-- the fault of a moving that was stopped in the middle of writing, or done without its number being written
abbrev pub IsMidway : Fault → Type 0
IsMidway (Session Interrupted) = Unit {0}
IsMidway (Io fault) = Unit {0}
IsMidway e = ⊥

-- changes were moved, all that were asked for or some of them
abbrev pub HasMoved : {V : Type 0} → Result V Fault → Type 0
HasMoved (Ok v) = Unit {0}
HasMoved (Err e) = IsMidway e

-- a moving that was refused, and not stopped in the middle, leaves all files as they were, whatever they held, or as recovery leaves them
abbrev pub SparesMove : Names → Option OpenError → Option RecoveryOutcome → SystemState → SystemState → Fault → Type 0
SparesMove names unopened how old new e = (IsMidway e → ⊥) → LeavesRefused names unopened how old new

-- whatever is found of the three after a loss of power, opening finds the images behind some of the k steps
abbrev pub SurvivesMove : ℕ → Course → (List ℕ → Type 0) → (List ℕ → Type 0) → (List ℕ → Type 0) → Type 0
SurvivesMove k course image journal redo = (x text redo_text : List ℕ) → image x → journal text → redo redo_text
    → (i : ℕ) × (i ≤ k) × Found text x redo_text (course.moved i)

-- a part of a line couldn't be written, behind `before` bytes of the line
abbrev pub StopsPart : ℕ → List ℕ → List ℕ → List ℕ → Fault → Type 0
StopsPart before part old new e = (told : ℕ) × (e ≡ Io (WriteFailed (before + told))) × AddsFront told old new part

-- the fault says that standard output couldn't be written
abbrev pub IsUnwritten : Fault → Type 0
IsUnwritten e = (told : ℕ) × (e ≡ Io (WriteFailed told))

-- A line couldn't be written: a front of it is behind what was written, and the fault tells no more bytes than that has
pub record StopsLine (line old new : List ℕ) (e : Fault) : Type 0 where
  pub front : List ℕ
  pub rest : List ℕ
  pub told : ℕ
  pub whole : line ≡ front ++ rest
  pub output : new ≡ old ++ front
  pub least : told ≤ length front
  pub fault : e ≡ Io (WriteFailed told)

-- k changes were moved, and their number couldn't be written
pub record LosesLine (names : Names) (k : ℕ) (course : Course) (old new : SystemState) (e : Fault) : Type 0 where
  pub enough : k ≤ course.most
  pub files : Holds (contents_of names new) (course.moved k)
  pub line : StopsLine (number_line (course.left k)) old.output new.output e

-- Why the moving of k changes ends in a fault: it was refused, and nothing is written; or it is done, and its number couldn't be written
abbrev pub StopsMove : Names → ℕ → Course → Option OpenError → SystemState → SystemState → Fault → Type 0
StopsMove names k course unopened old new e =
    (RefusesMove names k course unopened old new e × (new.output ≡ old.output)) ⊎ LosesLine names k course old new e

-- k changes of contents that opening took were moved, whatever they held: from the images for which they stand
pub record MovedRead (k : ℕ) (way : Direction) (how : RecoveryOutcome) (left : ℕ) (old new : Contents) : Type 0 where
  pub before : Images
  pub read : ReadAs how old before
  pub enough : k ≤ (stepped way before).most
  pub left_is : left ≡ (stepped way before).left k
  pub ends : StandsIn new ((stepped way before).moved k)

-- why the moving of k changes from images that opening found ends in a fault: it was refused, and nothing is written on standard output; or it is done, and
-- its number couldn't be written
abbrev pub StopsRecovered : Names → ℕ → Course → SystemState → SystemState → Fault → Type 0
StopsRecovered names k course old new e =
    (RefusesRecovered k course (contents_of names new) e × (new.output ≡ old.output)) ⊎ LosesLine names k course old new e

-- What an undo or a redo does on files in which opening finds images, as after a crash: it is done on what was recovered, which is said, or why not; or
-- opening was refused
abbrev pub MovesFound : Names → ℕ → Direction → Images → Option RecoveryOutcome → Result (Unit {0}) Fault → SystemState → SystemState → Type 0
MovesFound names k way s (Some how) outcome old new =
    MatchResult outcome (λ _. Moves names k (stepped way (recovered_as how s)) old new) (StopsRecovered names k (stepped way (recovered_as how s)) old new)
MovesFound names k way s None outcome old new = IsUnfound s outcome (contents_of names new) × (new.output ≡ old.output)

-- the same by name, and the number of changes that stand is written
pub record MovesRead (names : Names) (k : ℕ) (way : Direction) (how : RecoveryOutcome) (old new : SystemState) : Type 0 where
  pub before : Images
  pub read : ReadAs how (contents_of names old) before
  pub enough : k ≤ (stepped way before).most
  pub files : StandsIn (contents_of names new) ((stepped way before).moved k)
  pub output : new.output ≡ old.output ++ number_line ((stepped way before).left k)

-- whatever is found of the three after a loss of power, opening finds the images behind some of the k steps from what was recovered; or, where opening was
-- stopped in the middle, those that it found, and none that is undone
abbrev pub SurvivesMoved : ℕ → Direction → Images → Option RecoveryOutcome → (List ℕ → Type 0) → (List ℕ → Type 0) → (List ℕ → Type 0) → Type 0
SurvivesMoved k way s (Some how) image journal redo = SurvivesMove k (stepped way (recovered_as how s)) image journal redo
SurvivesMoved k way s None image journal redo = LosesUndone s image journal redo

-- The same by name, where changes were moved, of files that held images, and of those in which opening found them. Behind a moving that was refused no
-- more is found of any file that was there than before, whatever it held; or, where something was recovered, the three are on the disk as they are
pub record SurvivesMoving {V : Type 0} (names : Names) (k : ℕ) (way : Direction) (moved : Moved V) (old new : SystemState) (found left : ℕ → List ℕ → Type 0)
    : Type 0 where
  pub holds : (s : Images) → Holds (contents_of names old) s → HasMoved moved.outcome → (t : Trio) → LeadTo names t new
      → SurvivesMove k (stepped way s) (left t.image) (left t.journal) (left t.redo)
  pub finds : (s : Images) → FoundIn (contents_of names old) s → HasMoved moved.outcome → (t : Trio) → LeadTo names t new
      → SurvivesMoved k way s moved.how (left t.image) (left t.journal) (left t.redo)
  pub refused : (HasMoved moved.outcome → ⊥) → IsUnrecovered moved.how → NothingNewBelow old.there found left
  pub settled : (HasMoved moved.outcome → ⊥) → (IsUnrecovered moved.how → ⊥) → (t : Trio) → LeadTo names t new
      → StayOnDisk (contents_of names new) (left t.image) (left t.journal) (left t.redo)
