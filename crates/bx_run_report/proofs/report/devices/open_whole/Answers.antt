use Rattle.std.proofs.Common.{◌∙◌, sym}
use Rattle.std.proofs.lemmas.Bool.{false≢true}
use Rattle.bx_run_report.proofs.Counted.{opened_images}
use Rattle.bx_run_report.proofs.Looking.{opened_refused, opened_unclean}
use Rattle.bx_run_report.proofs.Failing.{failed_reason}
use Rattle.bx_run_report.proofs.report.devices.open_whole.Goals as goal

pub returns-else-is_whole-clause-hides : goal.returns-else-is_whole-clause-hides
returns-else-is_whole-clause-hides g c x text redo holds =
    opened_unclean g.D.Device g.T.TextStore c.args.devices x text redo holds _ _ c.in-Ok.ensures
    (λ clean. absurd (false≢true (sym c.if-is_whole.false ∙ c.is_whole.ensures.1 clean)))

pub returns-in-Err-clause-hides : goal.returns-in-Err-clause-hides
returns-in-Err-clause-hides g c x text redo holds =
    rw c.reason_of.ensures (opened_refused g.D.Device g.T.TextStore c.args.devices x text redo holds _ _ c.in-Err.ensures)

pub returns-then-is_whole-clause-images : goal.returns-then-is_whole-clause-images
returns-then-is_whole-clause-images g c x text redo holds =
    opened_images g.D.Device g.T.TextStore c.args.devices x text redo holds _ _ c.in-Ok.ensures (c.is_whole.ensures.0 c.if-is_whole.true)

pub returns-in-Err-clause-failed : goal.returns-in-Err-clause-failed
returns-in-Err-clause-failed g c is =
    failed_reason c.in-Err.fault _ _ _ _ _ _ c.in-Err.ensures.devices.counts (rw c.reason_of.ensures at is)
