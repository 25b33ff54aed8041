use Rattle.std.proofs.Common.{◌≡◌, true, false, sym, subst}
use Rattle.bx_cli_commands.specs.Run.{is_failure}
use Rattle.bx_run_session.specs.session.Ran.{RunsTask}
use Rattle.bx_run_session.proofs.LookLemmas.{look_still}
use Rattle.bx_run_session.proofs.RanLemmas.{unbegun_runs}
use Rattle.bx_run_session.proofs.session.guarded.run_looked.Goals as goal

pub returns-in-Another-clause-runs : goal.returns-in-Another-clause-runs
returns-in-Another-clause-runs g c =
    subst (RunsTask g.W.Image.Device g.W.Text.TextStore g.R.Read.remaining c.args.devices c.args.task)
    (sym (λ i. record { devices = c.unbegun.ensures.devices i; reply = c.unbegun.ensures.reply i; how = c.unbegun.ensures.how i; unopened = c.unbegun.ensures.unopened i }))
    (unbegun_runs g.W.Image.Device g.W.Text.TextStore g.R.Read.remaining c.args.devices c.args.devices c.args.task
    (look_still g.W.Image.Device g.W.Text.TextStore c.args.devices))

pub returns-in-Another-clause-failed : goal.returns-in-Another-clause-failed
returns-in-Another-clause-failed g c h is =
    let reply = c.unbegun.ensures.reply in
    let wrong : false ≡ true = rw reply at is in
    absurd (let no : false ≡ true = wrong in cc)
