-- What a change of an image leaves, and what the dropping of its history.
use Rattle.std.specs.Prelude.{◌≡◌, ◌<◌, ℕ, true, List, Option, None, Result, IfErr, IfOk, IfSome, OnOk}
use Rattle.bx_journal.specs.Images.{Images}
use Rattle.bx_journal.specs.SessionFault.TheVariants.{Interrupted}
use Rattle.bx_cli_commands.specs.Refusal.{IsWholeRefusal}
use Rattle.bx_cli_commands.specs.Replies.{stands_by}
use Rattle.bx_cli_commands.specs.Run.{Unfailed}
use Rattle.bx_cli_commands.specs.declared.command.Reply.TheVariants.{Refused}
use Rattle.bx_cli_commands.specs.declared.fault.Fault.TheVariants.{Session}
use Rattle.bx_world.specs.World.{SystemState}
use Rattle.bx_world.specs.declared.files.guard.Guard.{Guard}
use Rattle.bx_world.specs.declared.files.names.Names.{Names}
use Rattle.bx_run_session.specs.session.Changes.{Changes, InterruptsChange, RefusesChange}
use Rattle.bx_run_session.specs.session.Contents.{DoesFound, FoundIn, Holds, StepsRead, TellsUnfinished}
use Rattle.bx_run_session.specs.session.Named.{AreNotLeft, contents_of, no_change}
use Rattle.bx_run_session.specs.declared.session.named.Answer.{Answer}
use Rattle.bx_run_session.specs.declared.session.task.Task.{Task}
use Rattle.bx_run.specs.forget.Forgetting.{HasForgotten, LeavesNote, MayForgetNamed, StopsForgetting, held_by_names}
use Rattle.bx_run_report.specs.declared.report.error.ReportError.{ReportError}
use Rattle.bx_run_model.specs.RunState.{RunState}

-- Of files that hold images a change leaves those of the machine's next step, or, where it was interrupted, files in which opening finds the images
-- before or behind it; after a crash it is done on what is recovered. One that is refused leaves all files as they were, whatever they held, or what
-- was recovered; what was unfinished is said; and one that opening took and no device's failure refused makes the machine's step on the images for
-- which the files stand, sound or not
pub record DoesChange {R : Type 0} (remaining : R → Option (List ℕ)) (names : Names) (task : Task R) (answer : Answer) (old new : SystemState) : Type 0 where
  pub done : (s : Images) → Holds (contents_of names old) s
      → IfOk (stands_by answer.reply) (Changes remaining s task answer.reply (contents_of names new))
  pub refused : IsWholeRefusal answer.reply → RefusesChange remaining names task answer old new
  pub interrupted : (s : Images) → Holds (contents_of names old) s → answer.reply ≡ Refused (Session Interrupted)
      → InterruptsChange remaining s task (contents_of names new)
  pub stands : Unfailed answer.reply → IfSome answer.how (λ how. StepsRead remaining task how answer.reply (contents_of names old) (contents_of names new))
  pub how : TellsUnfinished (contents_of names old) answer.how (stands_by answer.reply)
  pub recovered : (s : Images) → FoundIn (contents_of names old) s → answer.unopened ≡ None
      → DoesFound remaining s task answer.how answer.reply (contents_of names new)

-- An opening does no change but what it recovers, and leaves no text that was missing
pub record DoesRecover {R : Type 0} (remaining : R → Option (List ℕ)) (names : Names) (answer : Answer) (old new : SystemState) : Type 0 where
  pub does : DoesChange remaining names no_change answer old new
  pub texts : AreNotLeft names old new new

-- Dropping a history leaves empty texts and the image as it was, where nothing was unfinished, or the texts don't fit the image, or what is unfinished
-- is another image's, by the note; else all is as it was, and there is a reason, or it was stopped in the middle: of files in which opening finds images it then finds these, or fewer
pub record DoesForget (guard : Guard) (names : Names) (outcome : Result (Unit {0}) ReportError) (old new : RunState) : Type 0 where
  pub may : OnOk outcome (MayForgetNamed guard old.note names old.state)
  pub done : OnOk outcome (HasForgotten (held_by_names names old.state) (held_by_names names new.state))
  pub stopped : IfErr outcome (StopsForgetting guard old.note names (old.refusals < new.refusals) old.state new.state)

-- A history is dropped, and the note with it, or why not; a note stays only where the system has refused a call
pub record ForgetsFiles (guard : Guard) (names : Names) (outcome : Result (Unit {0}) ReportError) (old new : RunState) : Type 0 where
  pub does : DoesForget guard names outcome old new
  pub note : LeavesNote outcome true (0 < new.refusals) old.note new.note
