-- A change with which a history begins anew: all changes before it are accepted, and it stands alone.
use Rattle.std.specs.Prelude.{◌≡◌, ◌≢◌, ◌⊎◌, ◌<◌, ◌≤◌, ℕ, Bool, true, false, List, [], Option, None, Some, Result, Ok, Err, IfOk, IfSome, OnOk}
use Rattle.bx_journal.specs.Forgotten.{only}
use Rattle.bx_journal.specs.Images.{Images}
use Rattle.bx_journal.specs.Machine.{top}
use Rattle.bx_journal.specs.RecoveryOutcome.{RecoveryOutcome}
use Rattle.bx_journal.specs.Power.{Found}
use Rattle.bx_journal.specs.SessionFault.TheVariants.{Interrupted}
use Rattle.bx_journal.specs.Redo.{recovered_as}
use Rattle.bx_cli_commands.specs.Refusal.{IsWholeRefusal}
use Rattle.bx_cli_commands.specs.Replies.{stands_by}
use Rattle.bx_cli_commands.specs.Run.{is_failure}
use Rattle.bx_cli_commands.specs.declared.command.Reply.{Reply}
use Rattle.bx_cli_commands.specs.declared.command.Reply.TheVariants.{Refused}
use Rattle.bx_cli_commands.specs.declared.fault.Fault.TheVariants.{Session}
use Rattle.bx_world.specs.World.{SystemState, Spares, Trio, held}
use Rattle.bx_world.specs.files.Files.{LeadsToMade, LeavesFiles, MakesImage, Unmakes}
use Rattle.bx_world.specs.declared.files.guard.Guard.{Guard}
use Rattle.bx_world.specs.declared.files.names.Names.{Names}
use Rattle.bx_world.specs.declared.files.unopened.OpenError.{OpenError}
use Rattle.bx_run_session.specs.session.Changes.{Changes, InterruptsChange, RefusesChange, SaysRecovered}
use Rattle.bx_run_session.specs.session.Contents.{FoundIn, Holds, Survives}
use Rattle.bx_run_session.specs.session.Guarded.{WasJudged, another}
use Rattle.bx_run_session.specs.session.Named.{AreNotLeft, ClearsNote, IsNamedBy, IsUnrecovered, KeepsOthers, LeadTo, MayRefuseTask, SurvivesTask, contents_of, is_missing, no_change}
use Rattle.bx_run_session.specs.declared.session.named.Answer.{Answer}
use Rattle.bx_run_session.specs.declared.session.task.Task.{Task}
use Rattle.bx_run.specs.forget.Forgetting.{DropsNote, Held, IsNoTextNamed, IsOfTexts, LosesPart, held_by_names}
use Rattle.bx_run_report.specs.declared.report.error.ReportError.{ReportError}
use Rattle.bx_run_report.specs.declared.report.error.ReportError.TheVariants.{Stopped}
use Rattle.bx_run_report.specs.report.Looks.{is_look_failed}
use Rattle.bx_run.specs.run.Changing.{DoesChange, DoesForget}
use Rattle.bx_run.specs.run.Outcome.{renewed_end, unopened_fault}
use Rattle.bx_run_model.specs.RunState.{RunState}
use Rattle.bx_run.specs.declared.renew.Renewed.{Renewed}
use Rattle.bx_run.specs.declared.renew.Renewed.TheVariants.{Kept, Undropped, Changed}

-- the opening was done, or refused for texts that are an image's
abbrev pub IsDroppable : Reply → Type 0
IsDroppable (Refused (Session fault)) = IsOfTexts fault
IsDroppable (Refused fault) = ⊥
IsDroppable reply = Unit {0}

-- a task wasn't begun as the image is another one
abbrev pub IsOfAnother : Option OpenError → Type 0
IsOfAnother None = ⊥
IsOfAnother (Some u) = u ≡ another

-- the history may be dropped behind an opening: it was done, or refused for texts that are an image's, or as the image is another one
abbrev pub MayDrop : Answer → Type 0
MayDrop answer = IsDroppable answer.reply ⊎ IsOfAnother answer.unopened

-- the same, but what is unfinished is recovered only onto an image that the note tells to be the one
abbrev pub only_told : Guard → Guard
only_told guard = record { mounted = guard.mounted; anyway = false; told = true; named = guard.named }

-- the image was judged by the line that the note had, before what is unfinished was recovered onto it: only where that tells that it is the one
abbrev pub JudgesOpening : {R : Type 0} → (R → Option (List ℕ)) → Guard → List ℕ → Names → SystemState → Answer → Type 0
JudgesOpening {R = R} remaining guard note names w answer =
    WasJudged (only_told guard) (is_missing names.image w) note (contents_of names w) (no_change {R = R}) answer.unopened answer.how

-- why such an opening isn't begun
abbrev pub MayNotOpenToDrop : {R : Type 0} → (R → Option (List ℕ)) → Guard → List ℕ → Names → Type 0 → SystemState → OpenError → Type 0
MayNotOpenToDrop {R = R} remaining guard note names counted w u = MayRefuseTask (only_told guard) true note (no_change {R = R}) names counted w u

-- Files were opened to be changed, and their history may be dropped: they hold the images that they held, and of files in which opening found
-- images, as after a crash, the image is then the newest of these; whatever they held, an opening that was refused leaves the image
pub record OpensToDrop {R : Type 0} (remaining : R → Option (List ℕ)) (names : Names) (answer : Answer) (old new : SystemState) : Type 0 where
  pub may : MayDrop answer
  pub does : DoesChange remaining names no_change answer old new
  pub others : KeepsOthers names old new
  pub same : (s : Images) → Holds (contents_of names old) s → Holds (contents_of names new) s
  pub found : (s : Images) → FoundIn (contents_of names old) s → OnOk (stands_by answer.reply) (held new names.image ≡ top s.stack)
  pub image : IsWholeRefusal answer.reply → IsUnrecovered answer.how → held new names.image ≡ held old names.image
  pub texts : AreNotLeft names old new new

-- a history is dropped, or why not, and no file is changed but its texts
pub record DropsTexts (guard : Guard) (names : Names) (outcome : Result (Unit {0}) ReportError) (old new : RunState) : Type 0 where
  pub does : DoesForget guard names outcome old new
  pub others : Spares (IsNoTextNamed names old.state) old.state new.state

-- The three steps: the files are opened, the history is dropped, and the change is asked for, each with what it leaves
pub record TakesSteps {R : Type 0} (remaining : R → Option (List ℕ)) (names : Names) (guard : Guard) (task : Task R) (answer : Answer)
    (old new : RunState) : Type 0 where
  pub opened : Answer
  pub first : RunState
  pub second : RunState
  pub opens : OpensToDrop remaining names opened old.state first.state
  pub judged : JudgesOpening remaining guard old.note names old.state opened
  pub drops : DropsTexts guard names (Ok tt) first second
  pub changes : DoesChange remaining names task answer second.state new.state
  pub others : KeepsOthers names second.state new.state
  pub unopened : IfSome answer.unopened (MayRefuseTask guard true second.note task names (second.refusals < new.refusals) second.state)

-- A change of an image alone was refused: the files are as they were when the history was dropped, and hold the image alone
pub record RefusesAlone {R : Type 0} (remaining : R → Option (List ℕ)) (names : Names) (image : List ℕ) (task : Task R) (answer : Answer)
    (new : SystemState) : Type 0 where
  pub dropped : SystemState
  pub alone : Holds (contents_of names dropped) (only image)
  pub refuses : RefusesChange remaining names task answer dropped new

-- What a change leaves of an image alone: the history is this change; or, where it was refused, none; or, where it was interrupted, opening finds
-- the image before or behind it
pub record ChangesAlone {R : Type 0} (remaining : R → Option (List ℕ)) (names : Names) (image : List ℕ) (task : Task R) (answer : Answer)
    (new : SystemState) : Type 0 where
  pub done : IfOk (stands_by answer.reply) (Changes remaining (only image) task answer.reply (contents_of names new))
  pub refused : IsWholeRefusal answer.reply → RefusesAlone remaining names image task answer new
  pub interrupted : answer.reply ≡ Refused (Session Interrupted) → InterruptsChange remaining (only image) task (contents_of names new)
  pub whole : IsUnrecovered answer.how

-- The history was dropped, and the change was asked for on the image alone, which is the newest of those that the files held, or, where their texts don't
-- fit it, the image that was there
pub record Renews {R : Type 0} (remaining : R → Option (List ℕ)) (names : Names) (guard : Guard) (task : Task R) (answer : Answer)
    (old new : RunState) : Type 0 where
  pub steps : TakesSteps remaining names guard task answer old new
  pub image : List ℕ
  pub newest : (s : Images) → Holds (contents_of names old.state) s → image ≡ top s.stack
  pub found : (s : Images) → FoundIn (contents_of names old.state) s → OnOk (stands_by steps.opened.reply) (image ≡ top s.stack)
  pub spared : IsWholeRefusal steps.opened.reply → IsUnrecovered steps.opened.how → image ≡ held old.state names.image
  pub alone : ChangesAlone remaining names image task answer new.state
  pub texts : IsWholeRefusal answer.reply → AreNotLeft names old.state steps.first.state new.state

-- The files were opened, but their history was not dropped, and why: they hold the images that they held, unless the dropping was stopped in the
-- middle
pub record StaysUndropped {R : Type 0} (remaining : R → Option (List ℕ)) (names : Names) (guard : Guard) (unseen : ReportError) (old new : RunState) : Type 0 where
  pub opened : Answer
  pub first : RunState
  pub opens : OpensToDrop remaining names opened old.state first.state
  pub judged : JudgesOpening remaining guard old.note names old.state opened
  pub stops : DropsTexts guard names (Err unseen) first new
  pub same : (s : Images) → Holds (contents_of names old.state) s → (unseen ≡ Stopped (Session Interrupted) → ⊥)
      → Holds (contents_of names new.state) s
  pub texts : AreNotLeft names old.state first.state new.state

-- what a change with which the history begins anew leaves; where the files can't be opened to be changed all is as an opening that was refused leaves it
abbrev pub DoesRenew : {R : Type 0} → (R → Option (List ℕ)) → Names → Guard → Task R → Renewed → RunState → RunState → Type 0
DoesRenew remaining names guard task (Kept answer) old new =
    (MayDrop answer → ⊥) × DoesChange remaining names no_change answer old.state new.state
    × JudgesOpening remaining guard old.note names old.state answer × AreNotLeft names old.state new.state new.state
    × ClearsNote (IsWholeRefusal answer.reply) answer.unopened answer.how (is_missing names.journal old.state) (old.refusals < new.refusals)
    old.note new.note
DoesRenew remaining names guard task (Undropped unseen) old new = StaysUndropped remaining names guard unseen old new
DoesRenew remaining names guard task (Changed answer) old new = Renews remaining names guard task answer old new

-- what is found after a loss of power of files whose history was not dropped: opening finds the images; or, where the dropping was stopped in the
-- middle, these or fewer
abbrev pub LosesUndropped : ReportError → Held → Images → (List ℕ → Type 0) → (List ℕ → Type 0) → (List ℕ → Type 0) → Type 0
LosesUndropped (Stopped (Session Interrupted)) first s image journal redo = LosesPart first image journal redo
LosesUndropped unseen first s image journal redo = (x text redo_text : List ℕ) → image x → journal text → redo redo_text → Found text x redo_text s

-- The same by name, where the files held images, as they did when the dropping began, or the opening before it recovered images that it found
pub record SurvivesUndropped {R : Type 0} (remaining : R → Option (List ℕ)) (names : Names) (unseen : ReportError) (old new : SystemState)
    (left : ℕ → List ℕ → Type 0) : Type 0 where
  pub opened : Answer
  pub first : SystemState
  pub opens : OpensToDrop remaining names opened old first
  pub found : (s : Images) → Holds (contents_of names old) s → (t : Trio) → LeadTo names t new
      → LosesUndropped unseen (held_by_names names first) s (left t.image) (left t.journal) (left t.redo)
  pub finds : (s : Images) → FoundIn (contents_of names old) s → (IsWholeRefusal opened.reply → ⊥) → (t : Trio) → LeadTo names t new
      → IfSome opened.how (λ how. LosesUndropped unseen (held_by_names names first) (recovered_as how s) (left t.image) (left t.journal) (left t.redo))

-- After a loss of power behind the change opening finds the images of an end of it, done alone on the image that the opening before it left
pub record SurvivesAlone {R : Type 0} (remaining : R → Option (List ℕ)) (names : Names) (task : Task R) (reply : Reply) (old new : SystemState)
    (left : ℕ → List ℕ → Type 0) : Type 0 where
  pub opened : Answer
  pub first : SystemState
  pub opens : OpensToDrop remaining names opened old first
  pub newest : (s : Images) → Holds (contents_of names old) s → held first names.image ≡ top s.stack
  pub found : (IsWholeRefusal reply → ⊥) → (t : Trio) → LeadTo names t new
      → Survives remaining (only (held first names.image)) task reply (left t.image) (left t.journal) (left t.redo)

-- what is found after a loss of power, by the step that the answer is of
abbrev pub SurvivesRenewal : {R : Type 0} → (R → Option (List ℕ)) → Names → Task R → Renewed → SystemState → SystemState
    → (ℕ → List ℕ → Type 0) → (ℕ → List ℕ → Type 0) → Type 0
SurvivesRenewal remaining names task (Kept answer) old new found left = SurvivesTask remaining names no_change answer old new found left
SurvivesRenewal remaining names task (Undropped unseen) old new found left = SurvivesUndropped remaining names unseen old new left
SurvivesRenewal remaining names task (Changed answer) old new found left = SurvivesAlone remaining names task answer.reply old new left

-- No file that a name led to holds other bytes but those that these names lead to by now, none has another owner or other permissions, and each name
-- leads where it led. No other name leads to a file that was made, unless the system refused to take one away; or it was a link to one of these that was
-- missing
pub record KeepsNamed (names : Names) (old new : SystemState) : Type 0 where
  pub bytes : (m : List ℕ) (n : ℕ) → old.named m ≡ Some n → (new.named names.image ≡ Some n → ⊥) → (new.named names.journal ≡ Some n → ⊥)
      → (new.named names.redo ≡ Some n → ⊥) → new.bytes n ≡ old.bytes n
  pub stat : (m : List ℕ) (n : ℕ) → old.named m ≡ Some n → new.stat n ≡ old.stat n
  pub named : (m : List ℕ) (n : ℕ) → old.named m ≡ Some n → new.named m ≡ Some n
  pub made : new.stuck ≡ old.stuck → (m : List ℕ) → LeadsToMade (IsNamedBy names new) (old.named m) (new.named m)
  pub stuck : old.stuck ≤ new.stuck

-- a file wasn't opened: the fault says so, and all files are as they were
abbrev pub NothingRenewed : Renewed → SystemState → SystemState → OpenError → Type 0
NothingRenewed renewed old new file = (renewed_end renewed ≡ Err (unopened_fault file.why)) × LeavesFiles old new

-- nothing is written but what the first step recovered
abbrev pub TellsOpening : Renewed → SystemState → SystemState → Type 0
TellsOpening (Kept answer) old new = SaysRecovered answer.how old new
TellsOpening renewed old new = (how : Option RecoveryOutcome) × SaysRecovered how old new

-- the change isn't made, and no step was stopped in the middle
abbrev pub IsRefusedRenewal : Renewed → Type 0
IsRefusedRenewal (Kept answer) = IsWholeRefusal answer.reply
IsRefusedRenewal (Undropped unseen) = unseen ≢ Stopped (Session Interrupted)
IsRefusedRenewal (Changed answer) = IsWholeRefusal answer.reply

-- behind the steps an image that was made for them is taken away again where they are refused, if it is empty; else all is as it was
abbrev pub ClearsImage : Renewed → Option ℕ → SystemState → SystemState → Type 0
ClearsImage renewed None ended new = new ≡ ended
ClearsImage renewed (Some n) ended new = (IsRefusedRenewal renewed × Unmakes n ended new) ⊎ ((IsRefusedRenewal renewed → ⊥) × (new ≡ ended))

-- whether such a change ended in the fault of a device
abbrev pub is_renewed_failed : Renewed → Bool
is_renewed_failed (Kept answer) = is_failure answer.reply
is_renewed_failed (Undropped unseen) = is_look_failed {V = Unit {0}} (Err unseen)
is_renewed_failed (Changed answer) = is_failure answer.reply

-- the change was refused on an image whose history was dropped
abbrev pub IsRefusedBehind : Renewed → Type 0
IsRefusedBehind (Changed answer) = IsWholeRefusal answer.reply
IsRefusedBehind renewed = ⊥

-- the note is dropped where the change was refused behind the drop of the history, and else has what the steps left
abbrev pub EndsNote : Renewed → Type 0 → List ℕ → List ℕ → Type 0
EndsNote renewed refused old new = (IsRefusedBehind renewed × DropsNote refused old new) ⊎ ((IsRefusedBehind renewed → ⊥) × (new ≡ old))

-- an image that was missing isn't there, empty, unless the system refused to take a file away
abbrev pub LeavesNoImage : Names → SystemState → SystemState → Type 0
LeavesNoImage names old new = old.named names.image ≡ None → new.stuck ≡ old.stuck → held new names.image ≡ [] → new.named names.image ≡ None

-- where the files were not to be changed, and nothing was recovered, all files are as they were, byte for byte
abbrev pub LeavesKept : Renewed → SystemState → SystemState → Type 0
LeavesKept (Kept answer) old new = IsWholeRefusal answer.reply → IsUnrecovered answer.how → LeavesFiles old new
LeavesKept renewed old new = Unit {0}

-- What a change with which the history begins anew leaves: an image that is missing is made before its steps, which changes no contents, and is taken
-- away again behind them where they are refused
pub record RenewsFiles {R : Type 0} (remaining : R → Option (List ℕ)) (names : Names) (guard : Guard) (task : Task R) (renewed : Renewed)
    (old new : RunState) : Type 0 where
  pub made : Option ℕ
  pub begun : RunState
  pub ended : RunState
  pub makes : MakesImage names.image made old.state begun.state
  pub same : contents_of names begun.state ≡ contents_of names old.state
  pub noted : begun.note ≡ old.note
  pub does : DoesRenew remaining names guard task renewed begun ended
  pub clears : ClearsImage renewed made ended.state new.state
  pub left : contents_of names new.state ≡ contents_of names ended.state
  pub note_left : EndsNote renewed (ended.refusals < new.refusals) ended.note new.note
  pub image : IsRefusedRenewal renewed → LeavesNoImage names old.state new.state
  pub kept : LeavesKept renewed old.state new.state

-- what is found of a file that was there; of a later one it may be anything
abbrev pub found_there : ℕ → (ℕ → List ℕ → Type 0) → ℕ → List ℕ → Type 0
found_there there found n x = n < there → found n x

-- What is found after a loss of power, where an image that was missing was made before the steps: behind them what they leave, and no more where that
-- image was taken away
pub record SurvivesRenewing {R : Type 0} (remaining : R → Option (List ℕ)) (names : Names) (task : Task R) (renewed : Renewed) (old new : SystemState)
    (found left : ℕ → List ℕ → Type 0) : Type 0 where
  pub made : Option ℕ
  pub begun : SystemState
  pub ended : SystemState
  pub makes : MakesImage names.image made old begun
  pub clears : ClearsImage renewed made ended new
  pub survives : SurvivesRenewal remaining names task renewed begun ended (found_there old.there found) left
