use Rattle.std.proofs.Common.{◌≡◌, ◌<◌, refl, sym, subst, arith}
use Rattle.bx_run_session.specs.session.Contents.{held_by}
use Rattle.bx_run_session.specs.session.Guarded.{failed_by}
use Rattle.bx_run_session.specs.session.Ran.{RunsTask}
use Rattle.bx_run_session.proofs.Obeyed.{failed_refused}
use Rattle.bx_run_session.proofs.RanLemmas.{failed_runs, judged_by, ran_behind, unjudged}
use Rattle.bx_run_session.proofs.session.guarded.run_guarded.Goals as goal

pub returns-in-Ok-clause-runs : goal.returns-in-Ok-clause-runs
returns-in-Ok-clause-runs g c =
    ran_behind g.W.Image.Device g.W.Text.TextStore g.R.Read.remaining c.args.devices c.look_at.new.devices c.args.task c.run_looked.result
    c.look_at.ensures.looks c.run_looked.ensures.runs

pub returns-in-Ok-clause-judged : goal.returns-in-Ok-clause-judged
returns-in-Ok-clause-judged g c h faithful =
    judged_by c.args.guard c.args.made.image (g.W.World.note c.args.world.now) (held_by g.W.Image.Device g.W.Text.TextStore c.args.devices) c.args.task
    (record { guard = c.args.guard; missing = c.args.made.image; line = c.told_by-told.result.line; unread = c.told_by-told.result.unread })
    (record { guard_is = refl; missing_is = refl; line_is = c.told_by-told.ensures.known h }) c.in-Ok.looked c.run_looked.result.unopened c.run_looked.result.how
    (c.in-Ok.ensures.looked faithful) c.run_looked.ensures.unopened
    ((ran_behind g.W.Image.Device g.W.Text.TextStore g.R.Read.remaining c.args.devices c.look_at.new.devices c.args.task c.run_looked.result
    c.look_at.ensures.looks c.run_looked.ensures.runs).accepted faithful)

pub returns-in-Err-clause-runs : goal.returns-in-Err-clause-runs
returns-in-Err-clause-runs g c =
    subst (RunsTask g.W.Image.Device g.W.Text.TextStore g.R.Read.remaining c.args.devices c.args.task)
    (sym (λ i. record { devices = c.failed.ensures.devices i; reply = c.failed.ensures.reply i; how = c.failed.ensures.how i; unopened = c.failed.ensures.unopened i }))
    (failed_runs g.W.Image.Device g.W.Text.TextStore g.R.Read.remaining c.args.devices c.look_at.new.devices c.args.task c.in-Err.fault
    c.look_at.ensures.looks c.in-Err.ensures.fault)

pub returns-in-Err-clause-judged : goal.returns-in-Err-clause-judged
returns-in-Err-clause-judged g c h faithful =
    unjudged c.args.guard c.args.made.image (g.W.World.note c.args.world.now) (held_by g.W.Image.Device g.W.Text.TextStore c.args.devices) c.args.task
    (record { guard = c.args.guard; missing = c.args.made.image; line = c.told_by-told.result.line; unread = c.told_by-told.result.unread })
    (record { guard_is = refl; missing_is = refl; line_is = c.told_by-told.ensures.known h }) c.failed.result.unopened c.failed.result.how
    c.failed.ensures.unopened c.failed.ensures.how

pub returns-in-Ok-clause-failed : goal.returns-in-Ok-clause-failed
returns-in-Ok-clause-failed g c h is =
    let first = c.told_by-told.ensures.counted h in
    let ran = c.run_looked.ensures.failed (c.told_by-told.ensures.faith.1 h) is in
    omega (arith, first, ran)

pub returns-in-Err-clause-failed : goal.returns-in-Err-clause-failed
returns-in-Err-clause-failed g c h is =
    let first = c.told_by-told.ensures.counted h in
    let devices = c.failed.ensures.devices in
    let fresh = c.requires.fresh in
    let some : 0 < failed_by g.W.Image.Device g.W.Text.TextStore c.look_at.new.devices =
    failed_refused c.in-Err.fault _ _ _ _ _ _ c.in-Err.ensures.counts fresh.0 fresh.1 fresh.2 (rw c.failed.ensures.reply at is) in
    rw devices (omega (arith, first, some))
