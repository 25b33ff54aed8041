-- What is said of an image before a task writes to it, and of three devices behind calls that only look at them.
use Rattle.std.specs.Prelude.{◌≡◌, ◌⊎◌, ◌≤◌, ◌+◌, ◌-◌, ◌^◌, ℕ, Bool, true, false, ◌&&◌, ◌||◌, not, nat_lt, min, if◌then◌else◌, Option, None, Some, IfSome, List, [], ◌∷◌, ◌++◌, length, Result, Ok, Err}
use Rattle.bx_image.specs.Power.{Only}
use Rattle.bx_image.specs.declared.device.Device.{Ghosts as DeviceViews}
use Rattle.bx_journal_store.specs.declared.store.TextStore.{Ghosts as StoreViews}
use Rattle.bx_journal_format.specs.Shown.{shown}
use Rattle.bx_journal_format.specs.Text.{IsAccepted}
use Rattle.bx_journal.specs.Devices.{Devices}
use Rattle.bx_journal.specs.RecoveryOutcome.{RecoveryOutcome}
use Rattle.bx_journal.specs.Opening.{ThreeCounts}
use Rattle.bx_journal.specs.Power.{FoundBefore}
use Rattle.bx_journal.specs.SessionFault.{SessionFault}
use Rattle.bx_journal.specs.Direction.{Direction}
use Rattle.bx_journal.specs.Direction.TheVariants.{Redo as Onward, Undo as Backward}
use Rattle.bx_journal_image.specs.declared.judging.judge.Verdict.{Verdict}
use Rattle.bx_journal_image.specs.declared.judging.judge.Verdict.TheVariants.{Other, Same, Untold}
use Rattle.bx_journal_image.specs.declared.line.form.ImageLine.{ImageLine}
use Rattle.bx_journal_image.specs.declared.advice.Standing.{Standing}
use Rattle.bx_journal_image.specs.declared.sealing.seal.Span.{Span}
use Rattle.bx_journal_image.specs.declared.finding.rest.AtRest.{AtRest}
use Rattle.bx_journal_image.specs.Advice.{is_redo_refused, is_undo_refused, on_no_texts, others_after}
use Rattle.bx_journal_image.specs.Digest.{image_digest}
use Rattle.bx_journal_image.specs.Line.{FitsPlaces, image_line}
use Rattle.bx_journal_image.specs.Seal.{IsInSpan, IsOpenSeal, IsSealOf, IsStepsSealOf}
use Rattle.bx_journal_image.specs.Stand.{IsStandOf}
use Rattle.bx_journal_image.specs.Ranges.{ending_line}
use Rattle.bx_journal_image.specs.Unfinished.{IsOpenJudged, IsUnfinishedJudged, LeavesImage}
use Rattle.bx_cli_commands.specs.declared.command.Command.TheVariants.{Redo, Undo}
use Rattle.bx_world.specs.World.{failed_calls}
use Rattle.bx_world.specs.declared.files.guard.Guard.{Guard}
use Rattle.bx_world.specs.declared.files.unopened.OpenError.{OpenError}
use Rattle.bx_world.specs.declared.files.unopened.FileRole.TheVariants.{Image}
use Rattle.bx_world.specs.declared.files.unopened.OpenFailure.TheVariants.{Another as OtherImage}
use Rattle.bx_run_session.specs.declared.session.looked.Looked.{Looked}
use Rattle.bx_run_session.specs.declared.session.looked.Looked.TheVariants.{Another, Goes}
use Rattle.bx_run_session.specs.declared.session.looked.Ready.{Ready}
use Rattle.bx_run_session.specs.declared.session.looked.Seal.{Seal}
use Rattle.bx_run_session.specs.declared.session.looked.Seal.TheVariants.{Kept, Line}
use Rattle.bx_run_session.specs.declared.session.task.Task.{Task}
use Rattle.bx_run_session.specs.declared.session.task.Task.TheVariants.{Run, Put, Keep}
use Rattle.bx_run_session.specs.declared.session.terms.Terms.{Terms}
use Rattle.bx_run_session.specs.session.Lengths.{IsTaskSpan}
use Rattle.bx_run_session.specs.session.Contents.{AreFaithful, Contents, StayFaithful, held_by}

-- whether an image isn't written to that was judged so: it is another one, or was missing; or nothing is known of it, where something has to be
abbrev pub keeps_off : Bool → Bool → Verdict → Bool
keeps_off told missing Same = missing
keeps_off told missing Other = true
keeps_off told missing Untold = missing || told

-- whether a task is refused for what its image was judged to be, or as the note couldn't be read
abbrev pub is_kept_off : Terms → Option Verdict → Bool
is_kept_off terms None = false
is_kept_off terms (Some verdict) = not terms.guard.anyway && (terms.unread || keeps_off terms.guard.told terms.missing verdict)

-- whether a line tells that an undo or a redo would find another image, by what is found of finished texts
abbrev pub is_moved_off : {R : Type 0} → ImageLine → Standing → Task R → Bool
is_moved_off line now (Run (Undo k)) = is_undo_refused line now k
is_moved_off line now (Run (Redo j)) = is_redo_refused line now j
is_moved_off line now task = false

-- the text ends with a newline and the line that ends an entry
pub record EndsLine (text : List ℕ) : Type 0 where
  pub front : List ℕ
  pub number : ℕ
  pub after : ℕ
  pub is : text ≡ front ++ 10 ∷ ending_line number after

-- it does, or is empty: nothing of it is unfinished, if it is accepted
abbrev pub EndsWhole : List ℕ → Type 0
EndsWhole text = (text ≡ []) ⊎ EndsLine text

-- what the image x is by a line beside a journal's text in which something unfinished has its `save` line; none beside one that has nothing
-- such, if it is accepted
abbrev pub IsJudgedBeside : Option ImageLine → List ℕ → List ℕ → Option Verdict → Type 0
IsJudgedBeside line text x None = IsAccepted (shown text) → LeavesImage text
IsJudgedBeside line text x (Some verdict) = IsOpenJudged line text x verdict

-- the image was judged by the line before anything was recovered onto it, and that kept nothing off
pub record IsSure (terms : Terms) (old : Contents) : Type 0 where
  pub verdict : Option Verdict
  pub judged : IsUnfinishedJudged terms.line old.journal old.image verdict
  pub on : is_kept_off terms verdict ≡ false

-- what is unfinished isn't recovered onto the image, as that was judged by the line
pub record IsKeptOff (terms : Terms) (old : Contents) : Type 0 where
  pub verdict : Option Verdict
  pub judged : IsUnfinishedJudged terms.line old.journal old.image verdict
  pub off : is_kept_off terms verdict ≡ true

-- whether a task writes where it is done, and nothing is unfinished
abbrev pub is_writing : {R : Type 0} → Task R → Bool
is_writing (Run (Undo k)) = nat_lt 0 k
is_writing (Run (Redo j)) = nat_lt 0 j
is_writing (Run command) = true
is_writing (Put (Ok change)) = true
is_writing (Put (Err fault)) = false
is_writing (Keep kept) = true

-- whether a task asks for more steps than there are
abbrev pub is_too_many : {R : Type 0} → Task R → Option AtRest → Bool
is_too_many task None = false
is_too_many (Run (Undo k)) (Some found) = nat_lt found.standing.changes k
is_too_many (Run (Redo j)) (Some found) = nat_lt found.standing.undone j
is_too_many task (Some found) = false

-- which way a task goes by more than one step
abbrev pub steps_of : {R : Type 0} → Task R → Option Direction
steps_of (Run (Undo k)) = if nat_lt 1 k then Some Backward else None
steps_of (Run (Redo j)) = if nat_lt 1 j then Some Onward else None
steps_of task = None

-- what the line tells of texts; of those that can't be read as finished entries as many changes as no journal has
abbrev pub standing_of : Option AtRest → Standing
standing_of (Some found) = found.standing
standing_of None = record { changes = 2 ^ 32 - 1; undone = 0; length = 0; last = image_digest []; next = image_digest [] }

-- What the line tells of the texts before a task. Of an undo, which takes changes from the journal one by one, it is on no texts: else what is left where that is
-- stopped could be taken for older texts
abbrev pub standing_before : {R : Type 0} → Task R → Option AtRest → Standing
standing_before (Run (Undo k)) found = on_no_texts (standing_of found)
standing_before task found = standing_of found

-- how many of the oldest changes stand for another image, by a line and what is found
abbrev pub others_of : Option ImageLine → Option AtRest → ℕ
others_of (Some line) (Some found) = others_after line found.standing
others_of (Some line) None = 0
others_of None found = 0

-- whether the line tells that a task would find another image, and it doesn't go on anyway
abbrev pub is_other : {R : Type 0} → Terms → Option AtRest → Task R → Bool
is_other terms found task = other_by terms.line found
  where
    other_by : Option ImageLine → Option AtRest → Bool
    other_by (Some line) (Some found) = not terms.guard.anyway && is_moved_off line found.standing task
    other_by (Some line) None = false
    other_by None found = false

-- nothing that is unfinished has its `save` line, and the line tells that the task would find another image
pub record IsMovedOff {R : Type 0} (terms : Terms) (old : Contents) (task : Task R) : Type 0 where
  pub found : Option AtRest
  pub rest : IsStandOf old.image old.journal old.redo found
  pub off : is_other terms found task ≡ true

-- Why a task is refused for another image: what is unfinished isn't recovered onto the image, or the line tells that the task would find another one
abbrev pub RefusesOther : {R : Type 0} → Terms → Contents → Task R → Type 0
RefusesOther terms old task = IsKeptOff terms old ⊎ IsMovedOff terms old task

-- the image isn't the one that the journal was written beside
abbrev pub another : OpenError
another = record { which = Image; why = OtherImage }

-- the files were opened: no reason says why not, or it is that of another image
abbrev pub WereOpened : Option OpenError → Type 0
WereOpened unopened = IfSome unopened (λ u. u ≡ another)

-- the line is the note, or none is
abbrev pub NoteSays : List ℕ → Option ImageLine → Type 0
NoteSays note (Some line) = note ≡ image_line line
NoteSays note None = (line : ImageLine) → FitsPlaces line → note ≡ image_line line → ⊥

-- what a task goes by: what it may do, whether its image was missing, and the line that the note has, unless it couldn't be read
pub record AreTermsOf (guard : Guard) (missing : Bool) (note : List ℕ) (terms : Terms) : Type 0 where
  pub guard_is : terms.guard ≡ guard
  pub missing_is : terms.missing ≡ missing
  pub line_is : terms.unread ≡ false → NoteSays note terms.line

-- What a task did it did behind a judgement of its image, by what it went by: it opened what is on the image only where that kept nothing off, and was
-- refused for another image only for a reason
pub record WasJudged {R : Type 0} (guard : Guard) (missing : Bool) (note : List ℕ) (old : Contents) (task : Task R) (unopened : Option OpenError)
    (how : Option RecoveryOutcome) : Type 0 where
  pub terms : Terms
  pub told : AreTermsOf guard missing note terms
  pub opened : IfSome how (λ _. IsSure terms old)
  pub refused : unopened ≡ Some another → RefusesOther terms old task

-- a task may be refused for another image
pub record MayBeAnother {R : Type 0} (guard : Guard) (missing : Bool) (note : List ℕ) (old : Contents) (task : Task R) : Type 0 where
  pub terms : Terms
  pub told : AreTermsOf guard missing note terms
  pub why : RefusesOther terms old task

-- Calls that only look at three devices: each has what it had, a loss of power finds no more than before, and each is faithful if it was
pub record LookAt {D T : Type 0} (d : DeviceViews D) (t : StoreViews T) (old new : Devices D T) : Type 0 where
  pub same : AreFaithful d t old → held_by d t new ≡ held_by d t old
  pub journal_same : t.faithful old.journal → t.text new.journal ≡ t.text old.journal
  pub before : FoundBefore d t old new
  pub faith : StayFaithful d t old new

-- how their failed calls count: one of the three counts one more where one of them failed, and else none does
abbrev pub CountLooks : {D T V : Type 0} → DeviceViews D → StoreViews T → Result V SessionFault → Devices D T → Devices D T → Type 0
CountLooks d t (Ok v) old new = (d.failures new.image ≡ d.failures old.image) × (t.failures new.journal ≡ t.failures old.journal)
    × (t.failures new.redo ≡ t.failures old.redo)
CountLooks d t (Err e) old new = ThreeCounts e (d.failures old.image) (t.failures old.journal) (t.failures old.redo) (d.failures new.image)
    (t.failures new.journal) (t.failures new.redo)

-- no more than one call of each device failed: failures count from 0, those of the redo text from 2 ^ 32
abbrev pub AreFew : {D T : Type 0} → DeviceViews D → StoreViews T → Devices D T → Type 0
AreFew d t x = (d.failures x.image ≤ 1) × (t.failures x.journal ≤ 1) × (t.failures x.redo ≤ 2 ^ 32 + 1)

-- how many calls of three devices failed that are fresh at first
abbrev pub failed_by : {D T : Type 0} → DeviceViews D → StoreViews T → Devices D T → ℕ
failed_by d t x = failed_calls (d.failures x.image) (t.failures x.journal) (t.failures x.redo)

-- each of three devices counts at most one failed call more
pub record RiseByOne {D T : Type 0} (d : DeviceViews D) (t : StoreViews T) (old new : Devices D T) : Type 0 where
  pub image_least : d.failures old.image ≤ d.failures new.image
  pub journal_least : t.failures old.journal ≤ t.failures new.journal
  pub redo_least : t.failures old.redo ≤ t.failures new.redo
  pub image : d.failures new.image ≤ d.failures old.image + 1
  pub journal : t.failures new.journal ≤ t.failures old.journal + 1
  pub redo : t.failures new.redo ≤ t.failures old.redo + 1

-- The line on an image as it is, with what it tells of its texts: before steps over the entries of a text without the blocks that their saved lines
-- touch, and before one step between lengths among which the image's is, with what is known of these lengths
abbrev pub IsLineOn : Option Direction → (AtRest → Span → Type 0) → Contents → Option AtRest → Standing → ℕ → ImageLine → Type 0
IsLineOn None Known old found now others line =
    (span : Span) × IfSome found (λ f. IsInSpan span f.standing.length × Known f span) × IsSealOf old.image now others span line
IsLineOn (Some Backward) Known old found now others line = IsStepsSealOf old.image old.journal now others line
IsLineOn (Some Onward) Known old found now others line = IsStepsSealOf old.image old.redo now others line

-- What the note is to have before a task on finished texts: what it has, where the task writes nothing, or is refused as there are fewer steps; and else the line on the image as it is
abbrev pub IsSealAtRest : {R : Type 0} → Contents → Task R → Option AtRest → ℕ → Seal → Type 0
IsSealAtRest old task found others Kept = (is_writing task ≡ false) ⊎ (is_too_many task found ≡ true)
IsSealAtRest old task found others (Line line) = IsLineOn (steps_of task) (IsTaskSpan task) old found (standing_before task found) others line

-- the line that is on an image which was judged so
abbrev pub known_by : Option ImageLine → Verdict → Option ImageLine
known_by line Same = line
known_by line Untold = line
known_by line Other = None

-- What the note is to have before a task that recovers first: what it has, where the task writes nothing else; and else what the line that is on the
-- image tells of the blocks that the recovery doesn't write
abbrev pub IsSealBehind : {R : Type 0} → Terms → Contents → Task R → Verdict → Seal → Type 0
IsSealBehind terms old task verdict Kept = is_writing task ≡ false
IsSealBehind terms old task verdict (Line line) = IsOpenSeal (known_by terms.line verdict) old.journal line

-- what such a task goes on with
abbrev pub IsReadyBehind : {R : Type 0} → Terms → Contents → Task R → Verdict → Ready → Type 0
IsReadyBehind terms old task verdict ready = IsSealBehind terms old task verdict ready.seal

-- what a task goes on with on finished texts
pub record IsReadyAtRest {R : Type 0} (terms : Terms) (old : Contents) (task : Task R) (ready : Ready) : Type 0 where
  pub found : Option AtRest
  pub rest : IsStandOf old.image old.journal old.redo found
  pub others_are : ready.others ≡ others_of terms.line found
  pub seal : IsSealAtRest old task found ready.others ready.seal

-- what was found of an image beside texts without something unfinished that has its `save` line
abbrev pub IsFoundAtRest : {R : Type 0} → Terms → Contents → Task R → Looked → Type 0
IsFoundAtRest terms old task Another = IsMovedOff terms old task
IsFoundAtRest terms old task (Goes ready) = IsReadyAtRest terms old task ready

-- what a task goes on with: behind a stop, or on finished texts
abbrev pub IsReadyFor : {R : Type 0} → Terms → Contents → Task R → Ready → Type 0
IsReadyFor terms old task ready =
    ((verdict : Verdict) × IsOpenJudged terms.line old.journal old.image verdict × IsReadyBehind terms old task verdict ready)
    ⊎ IsReadyAtRest terms old task ready

-- what was found of an image before a task
abbrev pub IsLookedAt : {R : Type 0} → Terms → Contents → Task R → Looked → Type 0
IsLookedAt terms old task Another = RefusesOther terms old task
IsLookedAt terms old task (Goes ready) = (IsAccepted (shown old.journal) → IsSure terms old) × IsReadyFor terms old task ready

-- The line on an image behind a task: of the texts as they are then, and of no command that goes on
pub record IsLineBehind (old : Contents) (others : ℕ) (line : ImageLine) : Type 0 where
  pub found : AtRest
  pub rest : IsStandOf old.image old.journal old.redo (Some found)
  pub seal : IsSealOf old.image found.standing (min others found.standing.changes)
      (record { least = found.standing.length; most = found.standing.length }) line

-- the line that is put on the disk before a task: where it is kept, the one that was found
abbrev pub line_to_put : Seal → Option ImageLine → Option ImageLine
line_to_put Kept found = found
line_to_put (Line line) found = Some line

-- what the note has, and what may be found of it after a loss of power, where a task begins to write
abbrev pub IsSealed : Option ImageLine → List ℕ → List ℕ → (List ℕ → Type 0) → Type 0
IsSealed None old new found = new ≡ old
IsSealed (Some line) old new found = ((new ≡ image_line line) × Only (image_line line) found) ⊎ (new ≡ [])
