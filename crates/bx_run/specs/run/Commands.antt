-- What a command on named files does, in the words of the calls that it is made of.
use Rattle.std.specs.Prelude.{◌≡◌, ◌<◌, ℕ, true, false, List, Option, None, Result, Err, IfErr, IfSome, OnOk}
use Rattle.std.specs.Result.{MatchResult}
use Rattle.bx_patch.specs.declared.diff.row.Extent.{Extent}
use Rattle.bx_journal.specs.Images.{Images}
use Rattle.bx_journal.specs.Direction.{Direction}
use Rattle.bx_cli_commands.specs.Refusal.{IsWholeRefusal}
use Rattle.bx_cli_commands.specs.declared.jobs.dump.Done.{Done as DumpDone}
use Rattle.bx_cli_commands.specs.declared.jobs.dumps.DumpJob.{DumpJob}
use Rattle.bx_world.specs.World.{NothingNewFound, SystemState, Spares}
use Rattle.bx_world.specs.declared.world.Outgrown.{Outgrown}
use Rattle.bx_world.specs.files.Files.{LeavesFiles}
use Rattle.bx_world.specs.files.Fit.{AreFit}
use Rattle.bx_world.specs.files.Reading.{AreReadable, MayRefuseForgetting, MayRefuseReading}
use Rattle.bx_world.specs.files.Reasons.{MayRefuseOpening}
use Rattle.bx_world.specs.declared.files.names.Names.{Names}
use Rattle.bx_world.specs.declared.files.unopened.OpenError.{OpenError}
use Rattle.bx_run_session.specs.session.Changes.{SaysRecovered}
use Rattle.bx_run_session.specs.session.Contents.{FoundIn, Holds, TellsUnfinished}
use Rattle.bx_run_session.specs.session.Moves.{HasMoved, Moves, MovesFound, MovesRead, SparesMove, StopsMove, SurvivesMoving, TellsRecovered, stepped, task_of}
use Rattle.bx_run_session.specs.session.Guarded.{WasJudged}
use Rattle.bx_run_session.specs.session.Named.{ClearsNote, KeepsOthers, MayRefuseTask, SurvivesTask, contents_of, is_missing, no_change}
use Rattle.bx_run_model.specs.Failures.{is_failed}
use Rattle.bx_run_session.specs.session.Task.{IsNearTask}
use Rattle.bx_run_session.specs.declared.session.moves.Moved.{Moved}
use Rattle.bx_run_report.specs.dump.Dumps.{CountsUndumped, DumpsInput, DumpsNamed, IsStopped, StopsInput, StopsNamed}
use Rattle.bx_run_report.specs.declared.dump.error.DumpError.{DumpError}
use Rattle.bx_run.specs.forget.Forgetting.{IsNoTextNamed, SurvivesForgetting}
use Rattle.bx_run.specs.run.Changing.{DoesRecover, ForgetsFiles}
use Rattle.bx_run_session.specs.preview.Diffs.{StopsDiff, WritesDiff, is_diff_failed}
use Rattle.bx_run_session.specs.preview.Previews.{is_preview_failed}
use Rattle.bx_run.specs.run.Answer.{answer_by}
use Rattle.bx_run.specs.run.Edits.{DoesEdit, PreviewsEdit, RenewsEdit}
use Rattle.bx_run.specs.run.Outcome.{ended_by, unopened_by, unopened_fault}
use Rattle.bx_run.specs.renew.Renewal.{KeepsNamed, SurvivesRenewing, TellsOpening, is_renewed_failed}
use Rattle.bx_run_report.specs.report.Looks.{is_look_failed}
use Rattle.bx_run_report.specs.report.Reports.{Reports}
use Rattle.bx_run_session.specs.Edit.{asked}
use Rattle.bx_run_model.specs.RunState.{RunState}
use Rattle.bx_run.specs.declared.run.answer.Done.{Done}
use Rattle.bx_run.specs.declared.run.answer.Failure.{Failure}
use Rattle.bx_run_session.specs.declared.preview.diff.DiffError.{DiffError}
use Rattle.bx_run.specs.declared.run.outcome.Outcome.{Outcome}
use Rattle.bx_run.specs.declared.run.outcome.Outcome.TheVariants as of
use Rattle.bx_run.specs.declared.run.request.Request.{Request}
use Rattle.bx_run.specs.declared.run.request.Request.TheVariants.{Move, Change, Recover, Dump, DumpInput, Diff, Preview, Look, Forget, Renew}

-- Of files that hold images an undo or a redo leaves those with `count` changes moved and writes how many stand, or it stops and says why; of
-- files in which opening finds images, as after a crash, it does so on what is recovered. One that is refused leaves all files as they were, whatever
-- they held, or what was recovered; what was unfinished is said; and one that is done moves the images for which the files stand, sound or not
pub record DoesMove (names : Names) (way : Direction) (count : ℕ) (moved : Moved (Unit {0})) (old new : SystemState) : Type 0 where
  pub done : (s : Images) → Holds (contents_of names old) s → OnOk moved.outcome (Moves names count (stepped way s) old new)
  pub stopped : (s : Images) → Holds (contents_of names old) s → IfErr moved.outcome (StopsMove names count (stepped way s) moved.unopened old new)
  pub spares : IfErr moved.outcome (SparesMove names moved.unopened moved.how old new)
  pub stands : IfSome moved.how (λ how. OnOk moved.outcome (MovesRead names count way how old new))
  pub how : TellsUnfinished (contents_of names old) moved.how moved.outcome
  pub recovered : (s : Images) → FoundIn (contents_of names old) s → moved.unopened ≡ None
      → MovesFound names count way s moved.how moved.outcome old new

-- A dump writes the job's text of all bytes of the file, or a front of it and says why; a file that isn't opened is missing, or the system counted
-- a call that it refused
pub record DoesDump (job : DumpJob) (name : List ℕ) (outcome : Result DumpDone DumpError) (old new : RunState) : Type 0 where
  pub text : MatchResult outcome (λ done. DumpsNamed job name old.state done old.written new.written)
      (λ e. StopsNamed job name old.state e old.written new.written)
  pub counted : CountsUndumped outcome old.refusals new.refusals

-- A dump of an input writes the job's text of all bytes that it gives from where it stands, or a front of it and says why
pub record DoesDumpInput (job : DumpJob) (input : Option (List ℕ)) (outcome : Result DumpDone DumpError) (old new : RunState) : Type 0 where
  pub text : MatchResult outcome (λ done. DumpsInput job input done old.written new.written) (StopsInput job input old.written new.written)
  pub counted : new.refusals ≡ old.refusals

-- A comparison writes the patch from the bytes of one file to those of another, or a front of it and says why; a file that isn't opened is missing,
-- may not be read by the rule, or the system counted a call that it refused
abbrev pub DoesDiff : Extent → List ℕ → List ℕ → Result (Unit {0}) DiffError → RunState → RunState → Type 0
DoesDiff extent old_name new_name outcome old new =
    MatchResult outcome (λ _. WritesDiff extent old_name new_name old.state old.written new.written)
    (StopsDiff extent old_name new_name (old.refusals < new.refusals) old.state old.written new.written)

-- each command has an answer of its own; an input is open, and no seek places it
abbrev pub Answers : {R : Type 0} → Request R → Outcome → Type 0
Answers (Move names guard way count) (of.Moved moved) = Unit {0}
Answers (Change names guard edit) (of.Changed answer) = Unit {0}
Answers (Recover names guard) (of.Changed answer) = Unit {0}
Answers (Dump job name) (of.Dumped outcome) = Unit {0}
Answers (DumpInput job input) (of.Dumped outcome) = IfErr outcome IsStopped
Answers (Diff old_name new_name extent) (of.Compared outcome) = Unit {0}
Answers (Preview name edit) (of.Previewed outcome) = Unit {0}
Answers (Look names report) (of.Looked outcome) = Unit {0}
Answers (Forget names guard) (of.Forgotten outcome) = Unit {0}
Answers (Renew names guard edit) (of.Renewed renewed) = Unit {0}
Answers request outcome = ⊥

-- what each command does
abbrev pub Fulfills : {R : Type 0} → (R → Option (List ℕ)) → Request R → Outcome → RunState → RunState → Type 0
Fulfills remaining (Move names guard way count) (of.Moved moved) old new = DoesMove names.now way count moved old.state new.state
Fulfills remaining (Change names guard edit) (of.Changed answer) old new = DoesEdit remaining edit names.now answer old.state new.state
Fulfills remaining (Recover names guard) (of.Changed answer) old new = DoesRecover remaining names.now answer old.state new.state
Fulfills remaining (Dump job name) (of.Dumped outcome) old new = DoesDump job.now name.now outcome old new
Fulfills remaining (DumpInput job input) (of.Dumped outcome) old new = DoesDumpInput job.now (remaining input) outcome old new
Fulfills remaining (Diff old_name new_name extent) (of.Compared outcome) old new = DoesDiff extent old_name.now new_name.now outcome old new
Fulfills remaining (Preview name edit) (of.Previewed outcome) old new = PreviewsEdit remaining edit name.now outcome old new
Fulfills remaining (Look names report) (of.Looked outcome) old new = Reports names.now report outcome old new
Fulfills remaining (Forget names guard) (of.Forgotten outcome) old new = ForgetsFiles guard names.now outcome old new
Fulfills remaining (Renew names guard edit) (of.Renewed renewed) old new = RenewsEdit remaining edit names.now guard renewed old new
Fulfills remaining request outcome old new = ⊥

-- whatever is found of the files after a loss of power: behind an undo, a redo and a change opening finds the images behind some of its steps, or
-- of an end of it, and behind a history that was dropped the image, with all changes or fewer; behind a dump, a comparison, a preview and a report nothing
-- is found that wasn't before
abbrev pub SurvivesLoss : {R : Type 0} → (R → Option (List ℕ)) → Request R → Outcome → SystemState → SystemState
    → (ℕ → List ℕ → Type 0) → (ℕ → List ℕ → Type 0) → Type 0
SurvivesLoss remaining (Move names guard way count) (of.Moved moved) old new found left =
    SurvivesMoving names.now count way moved old new found left
SurvivesLoss remaining (Change names guard edit) (of.Changed answer) old new found left =
    SurvivesTask remaining names.now (asked edit) answer old new found left
SurvivesLoss remaining (Recover names guard) (of.Changed answer) old new found left =
    SurvivesTask remaining names.now no_change answer old new found left
SurvivesLoss remaining (Forget names guard) (of.Forgotten outcome) old new found left = SurvivesForgetting names.now outcome old found left
SurvivesLoss remaining (Renew names guard edit) (of.Renewed renewed) old new found left =
    SurvivesRenewing remaining names.now (asked edit) renewed old new found left
SurvivesLoss remaining request outcome old new found left = NothingNewFound found left

-- no file is changed but the three of an undo, a redo or a change, and the texts of a history that is dropped; each name leads where it led
-- (behind a change with which the history begins anew this is said of files that a name led to)
abbrev pub LeavesOthers : {R : Type 0} → Request R → SystemState → SystemState → Type 0
LeavesOthers (Move names guard way count) old new = KeepsOthers names.now old new
LeavesOthers (Change names guard edit) old new = KeepsOthers names.now old new
LeavesOthers (Recover names guard) old new = KeepsOthers names.now old new
LeavesOthers (Forget names guard) old new = Spares (IsNoTextNamed names.now old) old new
LeavesOthers (Renew names guard edit) old new = KeepsNamed names.now old new
LeavesOthers request old new = new ≡ old

-- what stands under the names may be opened, by the rule: to be changed, or to be read; a dump is of any file, and a comparison and a preview say themselves which
-- they are of
abbrev pub MayOpen : {R : Type 0} → Request R → SystemState → Type 0
MayOpen (Move names guard way count) w = AreFit names.now guard.mounted w
MayOpen (Change names guard edit) w = AreFit names.now guard.mounted w
MayOpen (Recover names guard) w = AreFit names.now guard.mounted w
MayOpen (Dump job name) w = Unit {0}
MayOpen (DumpInput job input) w = Unit {0}
MayOpen (Diff old_name new_name extent) w = Unit {0}
MayOpen (Preview name edit) w = Unit {0}
MayOpen (Look names report) w = AreReadable names.now w
MayOpen (Forget names guard) w = AreReadable names.now w
MayOpen (Renew names guard edit) w = AreFit names.now guard.mounted w

-- why a file of an image may not be opened, or a task not begun on another image
abbrev pub MayRefuseFile : {R : Type 0} → Request R → Type 0 → List ℕ → SystemState → OpenError → Type 0
MayRefuseFile (Move names guard way count) counted note w file = MayRefuseTask guard false note (task_of way count) names.now counted w file
MayRefuseFile (Change names guard edit) counted note w file = MayRefuseTask guard true note (asked edit) names.now counted w file
MayRefuseFile {R = R} (Recover names guard) counted note w file = MayRefuseTask {R = R} guard true note no_change names.now counted w file
MayRefuseFile (Dump job name) counted note w file = ⊥
MayRefuseFile (DumpInput job input) counted note w file = ⊥
MayRefuseFile (Diff old_name new_name extent) counted note w file = ⊥
MayRefuseFile (Preview name edit) counted note w file = ⊥
MayRefuseFile (Look names report) counted note w file = MayRefuseReading names.now counted w file
MayRefuseFile (Forget names guard) counted note w file = MayRefuseForgetting names.now counted w file
MayRefuseFile (Renew names guard edit) counted note w file = MayRefuseOpening names.now guard.mounted true counted w file

-- what an undo, a redo and a change did they did behind a judgement of the image, by the line that the note had
abbrev pub WereJudged : {R : Type 0} → Request R → Outcome → RunState → Type 0
WereJudged (Move names guard way count) (of.Moved moved) old = WasJudged guard (is_missing names.now.image old.state) old.note
    (contents_of names.now old.state) (task_of way count) moved.unopened moved.how
WereJudged (Change names guard edit) (of.Changed answer) old = WasJudged guard (is_missing names.now.image old.state) old.note
    (contents_of names.now old.state) (asked edit) answer.unopened answer.how
WereJudged {R = R} (Recover names guard) (of.Changed answer) old = WasJudged guard (is_missing names.now.image old.state) old.note
    (contents_of names.now old.state) (no_change {R = R}) answer.unopened answer.how
WereJudged request outcome old = Unit {0}

-- Each command ends in the fault of a device only where a call was counted that the system or a device refused; a comparison says only then that a file
-- which it opened can't be read. A dump ends in none. Where an input can't be read, an output isn't written or memory is short, nothing is said: the
-- reads of an input and the writes of an output are not counted, and neither is memory that is refused
abbrev pub CountsFault : {R : Type 0} → Request R → Outcome → Type 0 → Type 0
CountsFault (Move names guard way count) (of.Moved moved) counted = is_failed (ended_by (of.Moved moved)) ≡ true → counted
CountsFault (Change names guard edit) (of.Changed answer) counted = is_failed (ended_by (of.Changed answer)) ≡ true → counted
CountsFault (Recover names guard) (of.Changed answer) counted = is_failed (ended_by (of.Changed answer)) ≡ true → counted
CountsFault (Dump job name) (of.Dumped outcome) counted = is_failed (ended_by (of.Dumped outcome)) ≡ false
CountsFault (DumpInput job input) (of.Dumped outcome) counted = is_failed (ended_by (of.Dumped outcome)) ≡ false
CountsFault (Diff old_name new_name extent) (of.Compared outcome) counted = is_diff_failed outcome ≡ true → counted
CountsFault (Preview name edit) (of.Previewed outcome) counted = is_preview_failed outcome ≡ true → counted
CountsFault (Look names report) (of.Looked outcome) counted = is_look_failed outcome ≡ true → counted
CountsFault (Forget names guard) (of.Forgotten outcome) counted = is_look_failed outcome ≡ true → counted
CountsFault (Renew names guard edit) (of.Renewed renewed) counted = is_renewed_failed renewed ≡ true → counted
CountsFault request outcome counted = ⊥

-- an undo, a redo and a change that are refused leave no line of their own in a note that had no bytes, or beside a journal that was missing (what a change
-- with which the history begins anew leaves of the note, and the dropping of a history, is said with what they do)
abbrev pub ClearNotes : {R : Type 0} → Request R → Outcome → RunState → RunState → Type 0
ClearNotes (Move names guard way count) (of.Moved moved) old new = ClearsNote (HasMoved moved.outcome → ⊥) moved.unopened moved.how
    (is_missing names.now.journal old.state) (old.refusals < new.refusals) old.note new.note
ClearNotes (Change names guard edit) (of.Changed answer) old new = ClearsNote (IsWholeRefusal answer.reply) answer.unopened answer.how
    (is_missing names.now.journal old.state) (old.refusals < new.refusals) old.note new.note
ClearNotes (Recover names guard) (of.Changed answer) old new = ClearsNote (IsWholeRefusal answer.reply) answer.unopened answer.how
    (is_missing names.now.journal old.state) (old.refusals < new.refusals) old.note new.note
ClearNotes request outcome old new = Unit {0}

-- A file of an image wasn't opened, or it isn't the image: the fault says so, all files are as they were, nothing is written, and there is a reason
pub record StopsUnopened {R : Type 0} (request : Request R) (outcome : Outcome) (old new : RunState) (file : OpenError) : Type 0 where
  pub fault : ended_by outcome ≡ Err (unopened_fault file.why)
  pub files : LeavesFiles old.state new.state
  pub why : MayRefuseFile request (old.refusals < new.refusals) old.note old.state file

-- What is written: what was recovered on standard error; of an undo and a redo a number on standard output; of a dump, a comparison, a preview and a report
-- what stands in the output that they are given
abbrev pub Writes : {R : Type 0} → Request R → Outcome → RunState → RunState → Type 0
Writes (Move names guard way count) (of.Moved moved) old new =
    TellsRecovered moved.how old.state.errors new.state.errors × (new.written ≡ old.written)
Writes (Change names guard edit) (of.Changed answer) old new = SaysRecovered answer.how old.state new.state × (new.written ≡ old.written)
Writes (Recover names guard) (of.Changed answer) old new = SaysRecovered answer.how old.state new.state × (new.written ≡ old.written)
Writes (Renew names guard edit) (of.Renewed renewed) old new = TellsOpening renewed old.state new.state × (new.written ≡ old.written)
Writes request outcome old new = (new.state.output ≡ old.state.output) × (new.state.errors ≡ old.state.errors)

-- What a command did that ended so, on the files as they were before it: it did what it is to do, on an image that was judged, in a way that a loss of
-- power leaves to be found, on files that may be opened; where one wasn't opened all are as they were; what it wrote stands where it is to; it ended in the
-- fault of a device only where a call was refused that is counted; and where it was refused it left no line in the note that it made
pub record HasRun {R : Type 0} (remaining : R → Option (List ℕ)) (request : Request R) (outcome : Outcome) (old new : RunState)
    (found left : ℕ → List ℕ → Type 0) : Type 0 where
  pub does : Fulfills remaining request outcome old new
  pub judged : WereJudged request outcome old
  pub survives : SurvivesLoss remaining request outcome old.state new.state found left
  pub fit : unopened_by outcome ≡ None → MayOpen request old.state
  pub unopened : IfSome (unopened_by outcome) (StopsUnopened request outcome old new)
  pub streams : Writes request outcome old new
  pub failed : CountsFault request outcome (old.refusals < new.refusals)
  pub notes : ClearNotes request outcome old new

-- An answer stands for how a command ended: its fault is the one that this ended in
pub record StandsAs {R : Type 0} (request : Request R) (outcome : Outcome) (outgrown : Option Outgrown) (answer : Result Done Failure) : Type 0 where
  pub answers : Answers request outcome
  pub answer_is : answer ≡ answer_by outgrown outcome
