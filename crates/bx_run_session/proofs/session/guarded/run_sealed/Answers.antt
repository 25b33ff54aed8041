use Rattle.std.proofs.Common.{◌≡◌, ◌<◌, sym, subst}
use Rattle.bx_run_session.specs.session.Guarded.{LookAt, failed_by}
use Rattle.bx_run_session.specs.session.Ran.{RunsTask}
use Rattle.bx_run_session.proofs.LookLemmas.{look_still}
use Rattle.bx_run_session.proofs.Obeyed.{failed_still}
use Rattle.bx_run_session.proofs.RanLemmas.{ended_as, ran_before}
use Rattle.bx_run_session.proofs.session.guarded.run_sealed.Goals.{else-is_ended, then-is_ended}
use Rattle.bx_run_session.proofs.session.guarded.run_sealed.Goals as goal

pub returns-clause-runs : goal.returns-clause-runs
returns-clause-runs g c =
    let said = c.open_and_run-closed.ensures in
    let ran : RunsTask g.W.Image.Device g.W.Text.TextStore g.R.Read.remaining c.args.devices c.args.task (ended_as c.open_and_run-closed.result) = record {
      accepted = said.accepted;
      how_is = said.how;
      does = λ faithful opened. said.does faithful;
      found = λ faithful opened. said.found faithful;
      stands = said.stands;
      whole = said.whole;
      survives = said.survives;
      endures = said.endures;
      spares = said.spares;
    } in
    let looks : LookAt g.W.Image.Device g.W.Text.TextStore c.open_and_run-closed.result.devices c.if-is_ended.devices = elim c.if-is_ended.branch [
      | then-is_ended w ↦ subst (LookAt g.W.Image.Device g.W.Text.TextStore c.open_and_run-closed.result.devices) (sym w.devices-is) w.put_end.ensures.looks
      | else-is_ended w ↦ subst (LookAt g.W.Image.Device g.W.Text.TextStore c.open_and_run-closed.result.devices) (sym w.devices-is)
          (look_still g.W.Image.Device g.W.Text.TextStore c.open_and_run-closed.result.devices)
    ] in
    ran_before g.W.Image.Device g.W.Text.TextStore g.R.Read.remaining c.args.devices c.if-is_ended.devices c.args.task (ended_as c.open_and_run-closed.result)
    said.faith ran looks

pub returns-clause-failed : goal.returns-clause-failed
returns-clause-failed g c is =
    let failed = c.open_and_run-closed.ensures.failed is in
    elim c.if-is_ended.branch [
      | then-is_ended w ↦ subst (λ x. 0 < failed_by g.W.Image.Device g.W.Text.TextStore x) (sym w.devices-is)
          (failed_still g.W.Image.Device g.W.Text.TextStore c.open_and_run-closed.result.devices _ w.put_end.ensures.counts failed)
      | else-is_ended w ↦ subst (λ x. 0 < failed_by g.W.Image.Device g.W.Text.TextStore x) (sym w.devices-is) failed
    ]
