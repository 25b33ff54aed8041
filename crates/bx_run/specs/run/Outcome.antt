-- How a command ended.
use Rattle.std.specs.Prelude.{Option, None, Some, Result, Ok, Err}
use Rattle.bx_text.specs.declared.fault.IoFault.TheVariants as stream
use Rattle.bx_patch.specs.declared.diff.fault.DiffFault.{DiffFault}
use Rattle.bx_patch.specs.declared.diff.fault.DiffFault.TheVariants.{NoMemory, TooLarge, OldFailed, NewFailed, WriteFailed}
use Rattle.bx_journal.specs.SessionFault.TheVariants as session
use Rattle.bx_cli_commands.specs.Replies.{stands_by}
use Rattle.bx_cli_commands.specs.declared.fault.Fault.{Fault}
use Rattle.bx_cli_commands.specs.declared.fault.Fault.TheVariants.{ChangedSince, Io, OpenFailed, Session}
use Rattle.bx_run_report.specs.declared.dump.error.DumpError.{DumpError}
use Rattle.bx_run_report.specs.declared.dump.error.DumpError.TheVariants as dump
use Rattle.bx_world.specs.declared.files.unopened.OpenError.{OpenError}
use Rattle.bx_world.specs.declared.files.unopened.OpenFailure.{OpenFailure}
use Rattle.bx_world.specs.declared.files.unopened.OpenFailure.TheVariants.{System, Unfit, Alias, Another}
use Rattle.bx_world.specs.declared.world.Outgrown.{Outgrown}
use Rattle.bx_run_report.specs.report.Looks.{unopened_in}
use Rattle.bx_run_report.specs.declared.report.error.ReportError.{ReportError}
use Rattle.bx_run_report.specs.declared.report.error.ReportError.TheVariants as look
use Rattle.bx_run_session.specs.declared.preview.diff.DiffError.{DiffError}
use Rattle.bx_run_session.specs.declared.preview.diff.DiffError.TheVariants as diff
use Rattle.bx_run.specs.declared.run.outcome.Outcome.{Outcome}
use Rattle.bx_run.specs.declared.run.outcome.Outcome.TheVariants.{Moved, Changed, Dumped, Compared, Previewed, Looked, Forgotten, Renewed}
use Rattle.bx_run_session.specs.declared.preview.error.PreviewError.{PreviewError}
use Rattle.bx_run_session.specs.declared.preview.error.PreviewError.TheVariants as preview
use Rattle.bx_run.specs.declared.renew.Renewed.{Renewed as Renewal}
use Rattle.bx_run.specs.declared.renew.Renewed.TheVariants as renewal

-- the fault of a file that wasn't opened, or isn't the image that its journal was written beside
abbrev pub unopened_fault : OpenFailure → Fault
unopened_fault (System refusal) = OpenFailed
unopened_fault (Unfit unfit) = OpenFailed
unopened_fault Alias = OpenFailed
unopened_fault Another = ChangedSince

-- the fault of a task on files, which is that of a file that wasn't opened, where one wasn't
abbrev pub task_fault : Option OpenError → Fault → Fault
task_fault None fault = fault
task_fault (Some file) fault = unopened_fault file.why

-- the fault where an image was refused a length that it can't have: no memory is short then, but the change is too large
abbrev pub grown_fault : Option Outgrown → Fault → Fault
grown_fault (Some outgrown) (Session session.NoMemory) = Session session.TooLarge
grown_fault outgrown fault = fault

-- the fault of a dump that is not whole
abbrev pub dump_fault : DumpError → Fault
dump_fault (dump.Unopened refusal) = OpenFailed
dump_fault (dump.Unplaced refusal) = Io stream.ReadFailed
dump_fault (dump.Stopped fault) = fault

-- the fault of a report that is not whole
abbrev pub look_fault : ReportError → Fault
look_fault (look.Unopened file) = unopened_fault file.why
look_fault look.Unfinished = Session session.Interrupted
look_fault look.Another = ChangedSince
look_fault (look.Stopped fault) = fault

-- the fault of a patch that is not whole
abbrev pub diff_fault : DiffError → Fault
diff_fault (diff.OldUnopened why) = unopened_fault why
diff_fault (diff.NewUnopened why) = unopened_fault why
diff_fault (diff.Stopped NoMemory) = Io stream.NoMemory
diff_fault (diff.Stopped TooLarge) = Session session.TooLarge
diff_fault (diff.Stopped OldFailed) = Io stream.ReadFailed
diff_fault (diff.Stopped NewFailed) = Io stream.ReadFailed
diff_fault (diff.Stopped (WriteFailed written)) = Io (stream.WriteFailed written)

-- the fault that stopped the comparison of an image with what would be made of it
abbrev pub stop_fault : DiffFault → Fault
stop_fault NoMemory = Io stream.NoMemory
stop_fault TooLarge = Session session.TooLarge
stop_fault OldFailed = Session session.DeviceFailed
stop_fault NewFailed = Session session.DeviceFailed
stop_fault (WriteFailed written) = Io (stream.WriteFailed written)

-- the fault of the patch of a change that isn't made
abbrev pub preview_fault : PreviewError → Fault
preview_fault (preview.Unopened why) = unopened_fault why
preview_fault (preview.Refused fault) = fault
preview_fault (preview.Unfitting has wanted) = Session session.TooLarge
preview_fault (preview.Stopped fault) = stop_fault fault

-- the same without the value
abbrev pub ended_with : {V E : Type 0} → (E → Fault) → Result V E → Result (Unit {0}) Fault
ended_with fault (Ok value) = Ok tt
ended_with fault (Err e) = Err (fault e)

-- that a change with which the history begins anew is done, or the fault of the step that it ended in
abbrev pub renewed_end : Renewal → Result (Unit {0}) Fault
renewed_end (renewal.Kept answer) = ended_with (task_fault answer.unopened) (stands_by answer.reply)
renewed_end (renewal.Undropped unseen) = Err (look_fault unseen)
renewed_end (renewal.Changed answer) = ended_with (task_fault answer.unopened) (stands_by answer.reply)

-- that the command is done, or the fault that it ended in
abbrev pub ended_by : Outcome → Result (Unit {0}) Fault
ended_by (Moved moved) = ended_with (task_fault moved.unopened) moved.outcome
ended_by (Changed answer) = ended_with (task_fault answer.unopened) (stands_by answer.reply)
ended_by (Dumped outcome) = ended_with dump_fault outcome
ended_by (Compared outcome) = ended_with diff_fault outcome
ended_by (Previewed outcome) = ended_with preview_fault outcome
ended_by (Looked outcome) = ended_with look_fault outcome
ended_by (Forgotten outcome) = ended_with look_fault outcome
ended_by (Renewed renewed) = renewed_end renewed

-- the file that wasn't opened to be changed, so that nothing was done; a later step says itself which it didn't open
abbrev pub first_unopened : Renewal → Option OpenError
first_unopened (renewal.Kept answer) = answer.unopened
first_unopened renewed = None

-- the file of an image that wasn't opened, and why, before anything was done; none where all were, or a dump, a comparison or a preview was asked for
abbrev pub unopened_by : Outcome → Option OpenError
unopened_by (Moved moved) = moved.unopened
unopened_by (Changed answer) = answer.unopened
unopened_by (Dumped outcome) = None
unopened_by (Compared outcome) = None
unopened_by (Previewed outcome) = None
unopened_by (Looked outcome) = unopened_in outcome
unopened_by (Forgotten outcome) = unopened_in outcome
unopened_by (Renewed renewed) = first_unopened renewed
