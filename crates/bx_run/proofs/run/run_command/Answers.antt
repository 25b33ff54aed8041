use Rattle.std.proofs.Common.{refl}
use Rattle.bx_cli_commands.specs.Replies.{stands_by}
use Rattle.bx_run_session.specs.Edit.{asked}
use Rattle.bx_run.specs.run.Changing.{DoesChange}
use Rattle.bx_run_session.specs.session.Named.{no_change}
use Rattle.bx_run.proofs.Ending.{leaves_same, stops_forgetting, stops_move, stops_renewal, stops_report, stops_task}
use Rattle.bx_run.proofs.Failing.{failed_begun}
use Rattle.bx_run_session.proofs.Failing.{failed_reply}
use Rattle.bx_run.proofs.Undumped.{dumped_input, dumped_named}
use Rattle.bx_run.proofs.Inputs.{does_edit, previews_edit, renews_edit}
use Rattle.bx_run.proofs.run.run_command.Goals as goal

pub returns-in-Move-clause-survives : goal.returns-in-Move-clause-survives
returns-in-Move-clause-survives g c old = rw c.in-Move.is (c.move_changes.ensures.survives old)

pub returns-in-Change-clause-does : goal.returns-in-Change-clause-does
returns-in-Change-clause-does g c old =
    let did = c.change_files-answer.ensures in
    let does : DoesChange g.R.Read.remaining c.in-Change.names.now c.task_of-change.result c.change_files-answer.result (g.W.World.state c.args.world.now)
    (g.W.World.state c.change_files-answer.new.world) = record {
      done = did.done old;
      refused = did.refused old;
      interrupted = did.interrupted old;
      stands = did.stands old;
      how = did.how old;
      recovered = did.recovered old;
    } in
    rw c.in-Change.is (does_edit g.R.Read.remaining c.in-Change.edit c.in-Change.names.now _ _ _ (rw c.task_of-change.ensures.is at does))

pub returns-in-Change-clause-survives : goal.returns-in-Change-clause-survives
returns-in-Change-clause-survives g c old = rw c.in-Change.is (rw c.task_of-change.ensures.is at (c.change_files-answer.ensures.survives old))

pub returns-in-Renew-clause-does : goal.returns-in-Renew-clause-does
returns-in-Renew-clause-does g c old =
    rw c.in-Renew.is (renews_edit g.R.Read.remaining c.in-Renew.edit c.in-Renew.names.now c.in-Renew.guard _ _ _
    (rw c.task_of-anew.ensures.is at (c.renew_files.ensures.does old (g.O.Write.contents c.args.out.now))))

pub returns-in-Preview-clause-does : goal.returns-in-Preview-clause-does
returns-in-Preview-clause-does g c old =
    rw c.in-Preview.is (previews_edit g.R.Read.remaining c.in-Preview.edit c.in-Preview.name.now c.write_preview.result _ _ (c.write_preview.ensures.previews old))

pub returns-in-Renew-clause-survives : goal.returns-in-Renew-clause-survives
returns-in-Renew-clause-survives g c old = rw c.in-Renew.is (rw c.task_of-anew.ensures.is at (c.renew_files.ensures.survives old))

pub returns-in-Move-clause-judged : goal.returns-in-Move-clause-judged
returns-in-Move-clause-judged g c old = rw c.in-Move.is (c.move_changes.ensures.judged old)

pub returns-in-Change-clause-judged : goal.returns-in-Change-clause-judged
returns-in-Change-clause-judged g c old = rw c.in-Change.is (rw c.task_of-change.ensures.is at (c.change_files-answer.ensures.judged old))

pub returns-in-Move-clause-unopened : goal.returns-in-Move-clause-unopened
returns-in-Move-clause-unopened g c old =
    rw c.in-Move.is (stops_move _ _ _ _ (c.move_changes.ensures.unopened old) (c.move_changes.ensures.why_unopened old))

pub returns-in-Change-clause-unopened : goal.returns-in-Change-clause-unopened
returns-in-Change-clause-unopened g c old =
    rw c.in-Change.is (stops_task _ _ _ _ (c.change_files-answer.ensures.unopened old)
    (rw c.task_of-change.ensures.is at (c.change_files-answer.ensures.why_unopened old)))

pub returns-in-Look-clause-unopened : goal.returns-in-Look-clause-unopened
returns-in-Look-clause-unopened g c old =
    rw c.in-Look.is (stops_report _ _ _ _ (leaves_same _ _ (c.write_report.ensures.same old)) (c.write_report.ensures.why old))

pub returns-in-Forget-clause-unopened : goal.returns-in-Forget-clause-unopened
returns-in-Forget-clause-unopened g c old =
    rw c.in-Forget.is (stops_forgetting _ c.in-Forget.names.now c.in-Forget.guard _ _ _ (c.forget_files.ensures.stopped old) (λ file may. may))

pub returns-in-Renew-clause-unopened : goal.returns-in-Renew-clause-unopened
returns-in-Renew-clause-unopened g c old =
    rw c.in-Renew.is (stops_renewal _ c.renew_files.result _ _ _ (c.renew_files.ensures.unopened old) (c.renew_files.ensures.why_unopened old))

pub returns-in-Recover-clause-does : goal.returns-in-Recover-clause-does
returns-in-Recover-clause-does g c old =
    let did = c.change_files-recovered.ensures in
    let does : DoesChange g.R.Read.remaining c.in-Recover.names.now no_change c.change_files-recovered.result (g.W.World.state c.args.world.now)
    (g.W.World.state c.change_files-recovered.new.world) = record {
      done = did.done old;
      refused = did.refused old;
      interrupted = did.interrupted old;
      stands = did.stands old;
      how = did.how old;
      recovered = did.recovered old;
    } in
    rw c.in-Recover.is (record { does = does; texts = (did.rest old).texts refl })

pub returns-in-Recover-clause-survives : goal.returns-in-Recover-clause-survives
returns-in-Recover-clause-survives g c old = rw c.in-Recover.is (c.change_files-recovered.ensures.survives old)

pub returns-in-Recover-clause-judged : goal.returns-in-Recover-clause-judged
returns-in-Recover-clause-judged g c old = rw c.in-Recover.is (c.change_files-recovered.ensures.judged old)

pub returns-in-Recover-clause-unopened : goal.returns-in-Recover-clause-unopened
returns-in-Recover-clause-unopened g c old =
    rw c.in-Recover.is (stops_task _ _ _ _ (c.change_files-recovered.ensures.unopened old) (c.change_files-recovered.ensures.why_unopened old))

pub returns-in-Forget-clause-does : goal.returns-in-Forget-clause-does
returns-in-Forget-clause-does g c old =
    let did = c.forget_files.ensures in
    rw c.in-Forget.is (record {
      does = record { may = did.may old; done = did.done old; stopped = did.stopped old };
      note = did.note old;
    })

pub returns-in-Move-clause-failed : goal.returns-in-Move-clause-failed
returns-in-Move-clause-failed g c old =
    rw c.in-Move.is (λ is. (c.move_changes.ensures.counted old).0.rise (failed_begun c.move_changes.result.unopened c.move_changes.result.outcome is))

pub returns-in-Change-clause-failed : goal.returns-in-Change-clause-failed
returns-in-Change-clause-failed g c old =
    let answer = c.change_files-answer.result in
    rw c.in-Change.is (λ is. (c.change_files-answer.ensures.counted old).0.rise (failed_reply answer.reply (failed_begun answer.unopened (stands_by answer.reply) is)))

pub returns-in-Recover-clause-failed : goal.returns-in-Recover-clause-failed
returns-in-Recover-clause-failed g c old =
    let answer = c.change_files-recovered.result in
    rw c.in-Recover.is (λ is. (c.change_files-recovered.ensures.counted old).0.rise (failed_reply answer.reply (failed_begun answer.unopened (stands_by answer.reply) is)))

pub returns-in-Renew-clause-failed : goal.returns-in-Renew-clause-failed
returns-in-Renew-clause-failed g c old = rw c.in-Renew.is (c.renew_files.ensures.failed old)

pub returns-in-Forget-clause-failed : goal.returns-in-Forget-clause-failed
returns-in-Forget-clause-failed g c old = rw c.in-Forget.is (c.forget_files.ensures.failed old)

pub returns-in-Look-clause-failed : goal.returns-in-Look-clause-failed
returns-in-Look-clause-failed g c old = rw c.in-Look.is (c.write_report.ensures.failed old)

pub returns-in-Dump-clause-failed : goal.returns-in-Dump-clause-failed
returns-in-Dump-clause-failed g c old =
    rw c.in-Dump.is (dumped_named c.in-Dump.job.now c.in-Dump.name.now (g.W.World.state c.args.world.now) c.dump_file.result _ _ (c.dump_file.ensures.err old))

pub returns-in-DumpInput-clause-failed : goal.returns-in-DumpInput-clause-failed
returns-in-DumpInput-clause-failed g c old =
    rw c.in-DumpInput.is (dumped_input c.in-DumpInput.job.now (g.R.Read.remaining c.in-DumpInput.input) c.dump_input.result _ _ c.dump_input.ensures.err)

pub returns-in-Diff-clause-failed : goal.returns-in-Diff-clause-failed
returns-in-Diff-clause-failed g c old = rw c.in-Diff.is (c.write_diff.ensures.failed old)

pub returns-in-Preview-clause-failed : goal.returns-in-Preview-clause-failed
returns-in-Preview-clause-failed g c old = rw c.in-Preview.is (c.write_preview.ensures.failed old)

pub returns-in-Move-clause-notes : goal.returns-in-Move-clause-notes
returns-in-Move-clause-notes g c old = rw c.in-Move.is (c.move_changes.ensures.counted old).1

pub returns-in-Change-clause-notes : goal.returns-in-Change-clause-notes
returns-in-Change-clause-notes g c old = rw c.in-Change.is (c.change_files-answer.ensures.counted old).1

pub returns-in-Recover-clause-notes : goal.returns-in-Recover-clause-notes
returns-in-Recover-clause-notes g c old = rw c.in-Recover.is (c.change_files-recovered.ensures.counted old).1
