-- What is answered of how a command ended.
use Rattle.std.specs.Prelude.{ℕ, Option, None, Some, Result, Ok, Err}
use Rattle.bx_dd.specs.declared.counts.Counts.{Counts}
use Rattle.bx_patch.specs.declared.diff.fault.DiffFault.TheVariants.{OldFailed, NewFailed}
use Rattle.bx_journal.specs.RecoveryOutcome.{RecoveryOutcome}
use Rattle.bx_journal.specs.SessionFault.TheVariants.{NoMemory}
use Rattle.bx_cli_commands.specs.Replies.{counted_by, stands_by}
use Rattle.bx_cli_commands.specs.declared.fault.Fault.{Fault}
use Rattle.bx_cli_commands.specs.declared.fault.Fault.TheVariants.{Session}
use Rattle.bx_cli_commands.specs.declared.jobs.dump.Done.TheVariants as dump_done
use Rattle.bx_world.specs.declared.world.Outgrown.{Outgrown}
use Rattle.bx_world.specs.declared.files.unopened.OpenError.{OpenError}
use Rattle.bx_world.specs.declared.files.unopened.FileRole.{FileRole}
use Rattle.bx_world.specs.declared.files.unopened.FileRole.TheVariants as which
use Rattle.bx_world.specs.declared.files.unopened.OpenFailure.TheVariants.{System}
use Rattle.bx_run_report.specs.declared.dump.error.DumpError.{DumpError}
use Rattle.bx_run_report.specs.declared.dump.error.DumpError.TheVariants as dump
use Rattle.bx_run_report.specs.declared.report.error.ReportError.{ReportError}
use Rattle.bx_run_report.specs.declared.report.error.ReportError.TheVariants as look
use Rattle.bx_run.specs.run.Outcome.{ended_by, grown_fault}
use Rattle.bx_run.specs.declared.run.answer.Cause.TheVariants as cause
use Rattle.bx_run.specs.declared.run.answer.Done.{Done}
use Rattle.bx_run.specs.declared.run.answer.Failure.{Failure}
use Rattle.bx_run.specs.declared.run.answer.CommandFile.{CommandFile}
use Rattle.bx_run.specs.declared.run.answer.CommandFile.TheVariants.{Image, Journal, Redo, Old, New}
use Rattle.bx_run.specs.declared.run.answer.Step.{Step}
use Rattle.bx_run.specs.declared.run.answer.Step.TheVariants.{Opening, Dropping, Work}
use Rattle.bx_run.specs.declared.run.answer.Stop.{Stop}
use Rattle.bx_run_session.specs.declared.preview.diff.DiffError.{DiffError}
use Rattle.bx_run_session.specs.declared.preview.diff.DiffError.TheVariants as diff
use Rattle.bx_run.specs.declared.run.outcome.Outcome.{Outcome}
use Rattle.bx_run.specs.declared.run.outcome.Outcome.TheVariants.{Moved, Changed, Dumped, Compared, Previewed, Looked, Forgotten, Renewed}
use Rattle.bx_run_session.specs.declared.preview.error.PreviewError.{PreviewError}
use Rattle.bx_run_session.specs.declared.preview.error.PreviewError.TheVariants as preview
use Rattle.bx_run.specs.declared.renew.Renewed.{Renewed as Renewal}
use Rattle.bx_run.specs.declared.renew.Renewed.TheVariants as renewal

-- what opening the image found unfinished; none of a command that changes no image
abbrev pub how_by : Outcome → Option RecoveryOutcome
how_by (Moved moved) = moved.how
how_by (Changed answer) = answer.how
how_by (Renewed (renewal.Kept answer)) = answer.how
how_by (Renewed (renewal.Changed answer)) = answer.how
how_by outcome = None

-- the value of what is done
abbrev pub done_value : {V E : Type 0} → Result V E → Option V
done_value (Ok value) = Some value
done_value (Err e) = None

-- how many changes stand behind a change
abbrev pub standing_by : Outcome → Option ℕ
standing_by (Changed answer) = done_value (stands_by answer.reply)
standing_by (Renewed (renewal.Kept answer)) = done_value (stands_by answer.reply)
standing_by (Renewed (renewal.Changed answer)) = done_value (stands_by answer.reply)
standing_by outcome = None

-- how many bytes were dumped
abbrev pub dumped_by : Outcome → Option ℕ
dumped_by (Dumped (Ok (dump_done.Dumped count))) = Some count
dumped_by outcome = None

-- what dd counted
abbrev pub counts_by : Outcome → Option Counts
counts_by (Changed answer) = counted_by answer.reply
counts_by (Renewed (renewal.Kept answer)) = counted_by answer.reply
counts_by (Renewed (renewal.Changed answer)) = counted_by answer.reply
counts_by (Dumped (Ok (dump_done.Copied counts))) = Some counts
counts_by (Previewed (Ok counts)) = counts
counts_by outcome = None

-- the step that a command ended in
abbrev pub step_by : Outcome → Step
step_by (Renewed (renewal.Kept answer)) = Opening
step_by (Renewed (renewal.Undropped unseen)) = Dropping
step_by outcome = Work

-- what one of the three files of an image is to a command
abbrev pub role_of : FileRole → CommandFile
role_of which.Image = Image
role_of which.Journal = Journal
role_of which.Redo = Redo

-- the file of an image that wasn't opened, where one wasn't
abbrev pub task_stop : Option OpenError → Option Stop
task_stop None = None
task_stop (Some file) = Some (record { file = role_of file.which; cause = cause.Unopened file.why })

-- the file that stopped a dump
abbrev pub dump_stop : DumpError → Option Stop
dump_stop (dump.Unopened refusal) = Some (record { file = Image; cause = cause.Unopened (System refusal) })
dump_stop (dump.Unplaced refusal) = Some (record { file = Image; cause = cause.Unplaced refusal })
dump_stop (dump.Stopped fault) = None

-- the file that stopped a comparison
abbrev pub diff_stop : DiffError → Option Stop
diff_stop (diff.OldUnopened why) = Some (record { file = Old; cause = cause.Unopened why })
diff_stop (diff.NewUnopened why) = Some (record { file = New; cause = cause.Unopened why })
diff_stop (diff.Stopped OldFailed) = Some (record { file = Old; cause = cause.Failed })
diff_stop (diff.Stopped NewFailed) = Some (record { file = New; cause = cause.Failed })
diff_stop (diff.Stopped fault) = None

-- the image, where it stopped the patch of a change that isn't made
abbrev pub preview_stop : PreviewError → Option Stop
preview_stop (preview.Unopened why) = Some (record { file = Image; cause = cause.Unopened why })
preview_stop (preview.Unfitting has wanted) = Some (record { file = Image; cause = cause.Outgrown (record { has = has; wanted = wanted }) })
preview_stop (preview.Stopped OldFailed) = Some (record { file = Image; cause = cause.Failed })
preview_stop (preview.Stopped NewFailed) = Some (record { file = Image; cause = cause.Failed })
preview_stop (preview.Stopped fault) = None
preview_stop (preview.Refused fault) = None

-- the file that stopped a report, or the dropping of a history
abbrev pub look_stop : ReportError → Option Stop
look_stop (look.Unopened file) = Some (record { file = role_of file.which; cause = cause.Unopened file.why })
look_stop look.Unfinished = Some (record { file = Image; cause = cause.Unfinished })
look_stop look.Another = Some (record { file = Image; cause = cause.Another })
look_stop (look.Stopped fault) = None

-- the file that stopped a change with which a history begins anew
abbrev pub renewed_stop : Renewal → Option Stop
renewed_stop (renewal.Kept answer) = task_stop answer.unopened
renewed_stop (renewal.Undropped unseen) = look_stop unseen
renewed_stop (renewal.Changed answer) = task_stop answer.unopened

-- the file that stopped a command
abbrev pub stop_by : Outcome → Option Stop
stop_by (Moved moved) = task_stop moved.unopened
stop_by (Changed answer) = task_stop answer.unopened
stop_by (Renewed renewed) = renewed_stop renewed
stop_by (Dumped (Err undumped)) = dump_stop undumped
stop_by (Compared (Err undiffed)) = diff_stop undiffed
stop_by (Previewed (Err unpreviewed)) = preview_stop unpreviewed
stop_by (Looked (Err unseen)) = look_stop unseen
stop_by (Forgotten (Err unseen)) = look_stop unseen
stop_by outcome = None

-- the same with a fault: the image, where it was refused a length that it can't have
abbrev pub outgrown_stop : Option Outgrown → Fault → Option Stop → Option Stop
outgrown_stop (Some outgrown) (Session NoMemory) stop = Some (record { file = Image; cause = cause.Outgrown outgrown })
outgrown_stop outgrown fault stop = stop

-- what is answered of a command that ended so: that it is done, and what it tells, or the fault that it ended in, and what stopped it; the world tells
-- whether the image was refused a length that it can't have
abbrev pub answered_as : Option Outgrown → Outcome → Result (Unit {0}) Fault → Result Done Failure
answered_as outgrown outcome (Ok done) = Ok (record {
  how = how_by outcome;
  standing = standing_by outcome;
  dumped = dumped_by outcome;
  counts = counts_by outcome;
})
answered_as outgrown outcome (Err fault) = Err (record {
  fault = grown_fault outgrown fault;
  stop = outgrown_stop outgrown fault (stop_by outcome);
  step = step_by outcome;
  how = how_by outcome;
})

-- the same
abbrev pub answer_by : Option Outgrown → Outcome → Result Done Failure
answer_by outgrown outcome = answered_as outgrown outcome (ended_by outcome)
