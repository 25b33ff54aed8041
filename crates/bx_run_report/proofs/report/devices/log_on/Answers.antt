use Rattle.std.specs.Prelude.{string_bytes}
use Rattle.bx_run_report.proofs.Held.{log_hides, log_whole}
use Rattle.bx_run_report.proofs.report.devices.log_on.Goals as goal

pub returns-in-Ok-clause-log : goal.returns-in-Ok-clause-log
returns-in-Ok-clause-log g c x text redo holds =
    log_whole g.D.Device g.T.TextStore x text redo _ (c.in-Ok.ensures.opened x text redo holds) string_bytes _ c.log_in-outcome.ensures.log

pub returns-in-Ok-clause-hides : goal.returns-in-Ok-clause-hides
returns-in-Ok-clause-hides g c x text redo holds =
    log_hides g.D.Device g.T.TextStore x text redo _ (c.in-Ok.ensures.opened x text redo holds) _ c.log_in-outcome.ensures.fails
