-- What a command that changes an image makes of the input that it was given.
use Rattle.std.specs.Prelude.{◌≡◌, ℕ, Bool, List, Option, None, Some, Result, Ok, IfOk, IfSome, OnOk}
use Rattle.std.specs.Io.KnownBytes.{Appends}
use Rattle.bx_dd.specs.declared.counts.Counts.{Counts}
use Rattle.bx_patch.specs.Text.{patch_text}
use Rattle.bx_patch.specs.declared.diff.row.Extent.TheVariants.{Bytes}
use Rattle.bx_journal.specs.Forgotten.{only}
use Rattle.bx_journal.specs.Images.{Images}
use Rattle.bx_journal.specs.Machine.{changes_of, top}
use Rattle.bx_journal.specs.RecoveryOutcome.{RecoveryOutcome}
use Rattle.bx_journal.specs.Redo.{recovered_as}
use Rattle.bx_cli_commands.specs.Replies.{stands_by}
use Rattle.bx_cli_commands.specs.Run.{Unfailed}
use Rattle.bx_cli_commands.specs.Standing.{Standing}
use Rattle.bx_cli_commands.specs.declared.command.Reply.{Reply}
use Rattle.bx_world.specs.World.{SystemState, held}
use Rattle.bx_world.specs.declared.files.guard.Guard.{Guard}
use Rattle.bx_world.specs.declared.files.names.Names.{Names}
use Rattle.bx_run_session.specs.Edit.{IsEditOf, IsOfInput, asked}
use Rattle.bx_run_session.specs.Input.{Input, InputStep}
use Rattle.bx_run_model.specs.RunState.{RunState}
use Rattle.bx_run_session.specs.declared.edit.Edit.{Edit}
use Rattle.bx_run_session.specs.declared.preview.error.PreviewError.{PreviewError}
use Rattle.bx_run.specs.declared.renew.Renewed.{Renewed}
use Rattle.bx_run.specs.declared.renew.Renewed.TheVariants.{Kept, Undropped, Changed}
use Rattle.bx_run_session.specs.declared.session.named.Answer.{Answer}
use Rattle.bx_run.specs.run.Changing.{DoesChange}
use Rattle.bx_run_session.specs.preview.Previews.{DoesPreview}
use Rattle.bx_run.specs.renew.Renewal.{RenewsFiles}
use Rattle.bx_run_session.specs.session.Contents.{Contents, EndsAt, FoundIn, Holds, ReadAs, StandsIn}
use Rattle.bx_run_session.specs.session.Named.{contents_of}

module _ (keeps : Bool) (input : Input) where
  -- An input was put onto images: the contents hold those of its step, and the answer is how many changes stand
  pub record IsPutOn (s : Images) (reply : Reply) (new : Contents) (left : ℕ) : Type 0 where
    pub next : Images
    pub step : InputStep keeps input (Standing.Up s) reply (Standing.Up next)
    pub files : Holds new next
    pub standing : left ≡ changes_of next.stack

  -- The same of contents that opening took, be their texts sound or not: it was put onto the images for which these stand
  pub record PutsRead (how : RecoveryOutcome) (reply : Reply) (old new : Contents) : Type 0 where
    pub before : Images
    pub next : Images
    pub read : ReadAs how old before
    pub step : InputStep keeps input (Standing.Up before) reply (Standing.Up next)
    pub ends : StandsIn new next

  -- the same of contents in which opening finds images, as after a crash: it was put onto what was recovered, unless opening was refused
  abbrev pub PutsFound : Images → Option RecoveryOutcome → Reply → Contents → Type 0
  PutsFound s (Some how) reply new = (after : Standing) × InputStep keeps input (Standing.Up (recovered_as how s)) reply after × EndsAt new after
  PutsFound s None reply new = Unit {0}

  -- An input was put onto the images of named files, whatever these held that opening takes; a change that isn't made is refused as its step is
  pub record PutsInput (names : Names) (answer : Answer) (old new : SystemState) : Type 0 where
    pub done : (s : Images) → Holds (contents_of names old) s → IfOk (stands_by answer.reply) (IsPutOn s answer.reply (contents_of names new))
    pub stands : Unfailed answer.reply → IfSome answer.how (λ how. PutsRead how answer.reply (contents_of names old) (contents_of names new))
    pub recovered : (s : Images) → FoundIn (contents_of names old) s → answer.unopened ≡ None
        → PutsFound s answer.how answer.reply (contents_of names new)

  -- An input was put onto the newest image of named files, whose history was dropped before
  pub record PutsAlone (names : Names) (answer : Answer) (old new : SystemState) : Type 0 where
    pub image : List ℕ
    pub newest : (s : Images) → Holds (contents_of names old) s → image ≡ top s.stack
    pub done : IfOk (stands_by answer.reply) (IsPutOn (only image) answer.reply (contents_of names new))

  -- the same, where the history was dropped
  abbrev pub PutsAnew : Names → Renewed → SystemState → SystemState → Type 0
  PutsAnew names (Kept answer) old new = Unit {0}
  PutsAnew names (Undropped unseen) old new = Unit {0}
  PutsAnew names (Changed answer) old new = PutsAlone names answer old new

  -- What an input's step makes of an image alone: it is made as the first change, and y is then the newest image
  pub record MakesOf (x y : List ℕ) : Type 0 where
    pub reply : Reply
    pub next : Images
    pub step : InputStep keeps input (Standing.Up (only x)) reply (Standing.Up next)
    pub stands : stands_by reply ≡ Ok 1
    pub newest : y ≡ top next.stack

  -- the patch from what a name holds to what an input's step makes of it was written
  abbrev pub PreviewsInput : List ℕ → SystemState → Option (List ℕ) → Option (List ℕ) → Type 0
  PreviewsInput name w old new = (y : List ℕ) × MakesOf (held w name) y × Appends old new (patch_text Bytes (held w name) y)

module _ {R : Type 0} (remaining : R → Option (List ℕ)) (edit : Edit R) where
  -- A change does what its edit asks, which is what some input asks; and each input that the edit is made of is what was put onto the image
  pub record DoesEdit (names : Names) (answer : Answer) (old new : SystemState) : Type 0 where
    pub does : DoesChange remaining names (asked edit) answer old new
    pub made : IsOfInput edit
    pub puts : (keeps : Bool) (input : Input) → IsEditOf keeps input edit → PutsInput keeps input names answer old new

  -- the same of a change with which the history begins anew
  pub record RenewsEdit (names : Names) (guard : Guard) (renewed : Renewed) (old new : RunState) : Type 0 where
    pub does : RenewsFiles remaining names guard (asked edit) renewed old new
    pub made : IsOfInput edit
    pub puts : (keeps : Bool) (input : Input) → IsEditOf keeps input edit → PutsAnew keeps input names renewed old.state new.state

  -- and of a preview
  pub record PreviewsEdit (name : List ℕ) (outcome : Result (Option Counts) PreviewError) (old new : RunState) : Type 0 where
    pub does : DoesPreview remaining name (asked edit) outcome old new
    pub made : IsOfInput edit
    pub puts : (keeps : Bool) (input : Input) → IsEditOf keeps input edit
        → OnOk outcome (PreviewsInput keeps input name old.state old.written new.written)
