use Rattle.bx_run_report.proofs.Held.{held_back, next_cut, next_shown}
use Rattle.bx_run_report.proofs.report.devices.show_on.Goals as goal

pub returns-in-Ok-clause-shows : goal.returns-in-Ok-clause-shows
returns-in-Ok-clause-shows g c x text redo holds =
    let whole = c.in-Ok.ensures.opened x text redo holds in
    let back = held_back g.D.Device g.T.TextStore x text redo _ whole _ c.closed-devices.ensures in
    next_shown g.D.Device g.T.TextStore x text redo _ whole _ c.changes-changes.ensures c.args.steps _ _ _
    (c.show_next-outcome.ensures.shows x text redo back)

pub returns-in-Ok-clause-stops : goal.returns-in-Ok-clause-stops
returns-in-Ok-clause-stops g c x text redo holds =
    let whole = c.in-Ok.ensures.opened x text redo holds in
    let back = held_back g.D.Device g.T.TextStore x text redo _ whole _ c.closed-devices.ensures in
    next_cut g.D.Device g.T.TextStore x text redo _ whole _ c.changes-changes.ensures c.args.steps _ _ _
    (c.show_next-outcome.ensures.cut x text redo back)
