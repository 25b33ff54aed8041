use Rattle.bx_run_report.proofs.Held.{held_back, rows_cut, rows_held}
use Rattle.bx_run_report.proofs.report.devices.ranges_on.Goals as goal

pub returns-in-Ok-clause-rows : goal.returns-in-Ok-clause-rows
returns-in-Ok-clause-rows g c x text redo holds =
    let whole = c.in-Ok.ensures.opened x text redo holds in
    rows_held g.D.Device g.T.TextStore x text redo _ (held_back g.D.Device g.T.TextStore x text redo _ whole _ c.closed-devices.ensures) _ _ _
    c.list_on-outcome.ensures.rows

pub returns-in-Ok-clause-stops : goal.returns-in-Ok-clause-stops
returns-in-Ok-clause-stops g c x text redo holds =
    let whole = c.in-Ok.ensures.opened x text redo holds in
    rows_cut g.D.Device g.T.TextStore x text redo _ (held_back g.D.Device g.T.TextStore x text redo _ whole _ c.closed-devices.ensures) _ _ _
    c.list_on-outcome.ensures.cut
