use Rattle.bx_run_session.specs.session.Contents.{held_by}
use Rattle.bx_run_session.proofs.LookLemmas.{line_of_one}
use Rattle.bx_run_session.proofs.session.looked.line_on.Goals as goal

pub returns-in-None-clause-line : goal.returns-in-None-clause-line
returns-in-None-clause-line g c faithful =
    line_of_one c.seal_one.result (held_by g.D.Device g.T.TextStore c.args.devices.now) c.args.found.now c.standing_before-now.result _ c.args.others
    c.span_if.result _ _ (let is = c.in-None.is in rw (← c.steps_of.ensures) is) c.standing_before-now.ensures c.span_if.ensures (c.seal_one.ensures.line faithful)
