-- How a command ended for which a file wasn't opened.
use Rattle.std.proofs.Common.{◌≡◌, ◌<◌, Option, Some, None, refl, Result, Ok, Err, arith}
use Rattle.std.specs.Prelude.{IfErr, IfSome}
use Rattle.bx_cli_commands.specs.Replies.{stands_by}
use Rattle.bx_cli_commands.specs.declared.command.Reply.{Reply}
use Rattle.bx_cli_commands.specs.declared.command.Reply.TheVariants.{Refused}
use Rattle.bx_cli_commands.specs.declared.fault.Fault.{Fault}
use Rattle.bx_cli_commands.specs.declared.fault.Fault.TheVariants.{OpenFailed}
use Rattle.bx_world.specs.World.{SystemState}
use Rattle.bx_world.specs.files.Files.{LeavesFiles}
use Rattle.bx_world.specs.files.Reading.{MayRefuseForgetting}
use Rattle.bx_world.specs.declared.files.guard.Guard.{Guard}
use Rattle.bx_world.specs.declared.files.names.Names.{Names}
use Rattle.bx_world.specs.declared.files.unopened.OpenError.{OpenError as UnopenedFile}
use Rattle.bx_run_session.specs.session.Moves.{NothingMoved}
use Rattle.bx_run_session.specs.session.Named.{NothingDone}
use Rattle.bx_run_session.specs.declared.session.moves.Moved.{Moved as Movement}
use Rattle.bx_run_session.specs.declared.session.named.Answer.{Answer}
use Rattle.bx_run.specs.forget.Forgetting.{IsUntouched, StopsForgetting}
use Rattle.bx_run_report.specs.report.Looks.{unopened_in}
use Rattle.bx_run_report.specs.declared.report.error.ReportError.{ReportError}
use Rattle.bx_run_report.specs.declared.report.error.ReportError.TheVariants.{Another, Unopened, Unfinished, Stopped}
use Rattle.bx_run.specs.run.Commands.{MayRefuseFile, StopsUnopened}
use Rattle.bx_run.specs.run.Outcome.{ended_with, task_fault, unopened_fault}
use Rattle.bx_run.specs.renew.Renewal.{NothingRenewed}
use Rattle.bx_run_model.specs.RunState.{RunState}
use Rattle.bx_run.specs.declared.run.outcome.Outcome.TheVariants as of
use Rattle.bx_run.specs.declared.renew.Renewed.{Renewed}
use Rattle.bx_run.specs.declared.renew.Renewed.TheVariants.{Kept}
use Rattle.bx_run.specs.declared.run.request.Request.{Request}

-- the fault of files that weren't opened is that of the first of them
ended_unopened : (unopened : Option UnopenedFile) (reply : Reply) (file : UnopenedFile) → unopened ≡ Some file → reply ≡ Refused OpenFailed
    → ended_with (task_fault unopened) (stands_by reply) ≡ Err (unopened_fault file.why)
ended_unopened unopened reply file is refused = rw (is, refused) refl

moved_unopened : (unopened : Option UnopenedFile) (outcome : Result (Unit {0}) Fault) (file : UnopenedFile) → unopened ≡ Some file
    → outcome ≡ Err OpenFailed → ended_with (task_fault unopened) outcome ≡ Err (unopened_fault file.why)
moved_unopened unopened outcome file is refused = rw (is, refused) refl

-- a task that wasn't begun
task_at : {R : Type 0} (request : Request R) (answer : Answer) (old new : RunState) (unopened : Option UnopenedFile) → answer.unopened ≡ unopened
    → IfSome unopened (λ _. NothingDone answer.reply answer.how old.state new.state)
    → IfSome unopened (MayRefuseFile request (old.refusals < new.refusals) old.note old.state)
    → IfSome unopened (StopsUnopened request (of.Changed answer) old new)
task_at request answer old new None is nothing why = tt
task_at request answer old new (Some file) is nothing why =
    record { fault = ended_unopened answer.unopened answer.reply file is nothing.0; files = nothing.2; why = why }

pub stops_task : {R : Type 0} (request : Request R) (answer : Answer) (old new : RunState)
    → IfSome answer.unopened (λ _. NothingDone answer.reply answer.how old.state new.state)
    → IfSome answer.unopened (MayRefuseFile request (old.refusals < new.refusals) old.note old.state)
    → IfSome answer.unopened (StopsUnopened request (of.Changed answer) old new)
stops_task request answer old new nothing why = task_at request answer old new answer.unopened refl nothing why

-- an undo or a redo that wasn't begun
move_at : {R : Type 0} (request : Request R) (moved : Movement (Unit {0})) (old new : RunState) (unopened : Option UnopenedFile) → moved.unopened ≡ unopened
    → IfSome unopened (λ _. NothingMoved moved old.state new.state)
    → IfSome unopened (MayRefuseFile request (old.refusals < new.refusals) old.note old.state)
    → IfSome unopened (StopsUnopened request (of.Moved moved) old new)
move_at request moved old new None is nothing why = tt
move_at request moved old new (Some file) is nothing why =
    record { fault = moved_unopened moved.unopened moved.outcome file is nothing.0; files = nothing.2; why = why }

pub stops_move : {R : Type 0} (request : Request R) (moved : Movement (Unit {0})) (old new : RunState)
    → IfSome moved.unopened (λ _. NothingMoved moved old.state new.state)
    → IfSome moved.unopened (MayRefuseFile request (old.refusals < new.refusals) old.note old.state)
    → IfSome moved.unopened (StopsUnopened request (of.Moved moved) old new)
stops_move request moved old new nothing why = move_at request moved old new moved.unopened refl nothing why

-- a change with which a history begins anew, whose files weren't opened
kept_at : (answer : Answer) (old new : SystemState) (unopened : Option UnopenedFile) → answer.unopened ≡ unopened
    → IfSome unopened (λ _. NothingDone answer.reply answer.how old new) → IfSome unopened (NothingRenewed (Kept answer) old new)
kept_at answer old new None is nothing = tt
kept_at answer old new (Some file) is nothing = (ended_unopened answer.unopened answer.reply file is nothing.0, nothing.2)

pub nothing_kept : (answer : Answer) (old new : SystemState) → IfSome answer.unopened (λ _. NothingDone answer.reply answer.how old new)
    → IfSome answer.unopened (NothingRenewed (Kept answer) old new)
nothing_kept answer old new nothing = kept_at answer old new answer.unopened refl nothing

-- the same by what was asked for
pub stops_renewal : {R : Type 0} (request : Request R) (renewed : Renewed) (old new : RunState) (unopened : Option UnopenedFile)
    → IfSome unopened (NothingRenewed renewed old.state new.state)
    → IfSome unopened (MayRefuseFile request (old.refusals < new.refusals) old.note old.state)
    → IfSome unopened (StopsUnopened request (of.Renewed renewed) old new)
stops_renewal request renewed old new None nothing why = tt
stops_renewal request renewed old new (Some file) nothing why = record { fault = nothing.0; files = nothing.1; why = why }

-- a report of files that weren't opened
pub stops_report : {R : Type 0} (request : Request R) (outcome : Result (Unit {0}) ReportError) (old new : RunState) → LeavesFiles old.state new.state
    → IfSome (unopened_in outcome) (MayRefuseFile request (old.refusals < new.refusals) old.note old.state)
    → IfSome (unopened_in outcome) (StopsUnopened request (of.Looked outcome) old new)
stops_report request (Ok done) old new files why = tt
stops_report request (Err (Unopened file)) old new files why = record { fault = refl; files = files; why = why }
stops_report request (Err Unfinished) old new files why = tt
stops_report request (Err Another) old new files why = tt
stops_report request (Err (Stopped fault)) old new files why = tt

-- files that are the same, or that are all spared
pub leaves_same : (old new : SystemState) → new ≡ old → LeavesFiles old new
leaves_same old new is = rw is (record {
  bytes = λ i low. refl;
  stat = λ i low. refl;
  named = λ stuck m. refl;
  still = λ m n named. named;
  stuck = omega arith;
  streams = record { is_link = λ m. refl; caller = refl; before = refl; lent = refl; output = refl; errors = refl };
})

leaves_untouched : (old new : SystemState) → IsUntouched old new → LeavesFiles old new
leaves_untouched old new is = record {
  bytes = λ i low. is.bytes i tt;
  stat = λ i low. is.stat i;
  named = λ stuck m. is.named m;
  still = λ m n named. rw (is.named m) named;
  stuck = rw is.stuck (omega arith);
  streams = record {
    is_link = is.is_link;
    caller = is.caller;
    before = is.before;
    lent = is.lent;
    output = is.output;
    errors = is.errors;
  };
}

-- a history that wasn't dropped, since its files weren't opened
pub stops_forgetting : {R : Type 0} (request : Request R) (names : Names) (guard : Guard) (outcome : Result (Unit {0}) ReportError) (old new : RunState)
    → IfErr outcome (StopsForgetting guard old.note names (old.refusals < new.refusals) old.state new.state)
    → ((file : UnopenedFile) → MayRefuseForgetting names (old.refusals < new.refusals) old.state file
    → MayRefuseFile request (old.refusals < new.refusals) old.note old.state file)
    → IfSome (unopened_in outcome) (StopsUnopened request (of.Forgotten outcome) old new)
stops_forgetting request names guard (Ok done) old new stops may = tt
stops_forgetting request names guard (Err (Unopened file)) old new stops may =
    record { fault = refl; files = leaves_untouched old.state new.state stops.1; why = may file stops.0 }
stops_forgetting request names guard (Err Unfinished) old new stops may = tt
stops_forgetting request names guard (Err Another) old new stops may = tt
stops_forgetting request names guard (Err (Stopped fault)) old new stops may = tt
