use Rattle.std.proofs.Common.{◌∙◌, inl, sym}
use Rattle.std.proofs.lemmas.Bool.{false≢true}
use Rattle.bx_run.proofs.Judged.{of_texts_found, of_texts_image, of_texts_may, of_texts_unfailed}
use Rattle.bx_run_report.proofs.Looking.{opened_refused, opened_unclean, opened_whole}
use Rattle.bx_run_report.proofs.Failing.{failed_reason}
use Rattle.bx_run.proofs.forget.judging.judge_found.Goals as goal

pub returns-then-is_whole-clause-may : goal.returns-then-is_whole-clause-may
returns-then-is_whole-clause-may g c x text redo note guard holds =
    let whole = opened_whole g.D.Device g.T.TextStore c.args.devices x text redo holds _ _ c.in-Ok.ensures (c.is_whole.ensures.0 c.if-is_whole.true) in
    inl (whole.counted.0, whole.counted.1)

pub returns-then-is_whole-clause-image : goal.returns-then-is_whole-clause-image
returns-then-is_whole-clause-image g c x text redo holds =
    let whole = opened_whole g.D.Device g.T.TextStore c.args.devices x text redo holds _ _ c.in-Ok.ensures (c.is_whole.ensures.0 c.if-is_whole.true) in
    rw c.closed.ensures (whole.devices.image_faithful, whole.devices.image_is)

pub returns-else-is_whole-clause-hides : goal.returns-else-is_whole-clause-hides
returns-else-is_whole-clause-hides g c x text redo holds =
    opened_unclean g.D.Device g.T.TextStore c.args.devices x text redo holds _ _ c.in-Ok.ensures
    (λ clean. absurd (false≢true (sym c.if-is_whole.false ∙ c.is_whole.ensures.1 clean)))

pub returns-then-is_of_texts-clause-may : goal.returns-then-is_of_texts-clause-may
returns-then-is_of_texts-clause-may g c x text redo note guard holds =
    of_texts_may g.D.Device g.T.TextStore c.args.devices _ _ (c.is_of_texts.ensures.0 c.if-is_of_texts.true) c.in-Err.ensures x text redo holds note guard

pub returns-then-is_of_texts-clause-image : goal.returns-then-is_of_texts-clause-image
returns-then-is_of_texts-clause-image g c x text redo holds =
    of_texts_image g.D.Device g.T.TextStore c.args.devices _ _ (c.is_of_texts.ensures.0 c.if-is_of_texts.true) c.in-Err.ensures x text redo holds

pub returns-then-is_of_texts-clause-found_before : goal.returns-then-is_of_texts-clause-found_before
returns-then-is_of_texts-clause-found_before g c x text redo holds =
    of_texts_found g.D.Device g.T.TextStore c.args.devices _ _ (c.is_of_texts.ensures.0 c.if-is_of_texts.true) c.in-Err.ensures x text redo holds

pub returns-then-is_of_texts-clause-unfailed : goal.returns-then-is_of_texts-clause-unfailed
returns-then-is_of_texts-clause-unfailed g c =
    of_texts_unfailed g.D.Device g.T.TextStore c.args.devices _ _ (c.is_of_texts.ensures.0 c.if-is_of_texts.true) c.in-Err.ensures

pub returns-else-is_of_texts-clause-hides : goal.returns-else-is_of_texts-clause-hides
returns-else-is_of_texts-clause-hides g c x text redo holds =
    rw c.reason_of.ensures (opened_refused g.D.Device g.T.TextStore c.args.devices x text redo holds _ _ c.in-Err.ensures)

pub returns-else-is_of_texts-clause-failed : goal.returns-else-is_of_texts-clause-failed
returns-else-is_of_texts-clause-failed g c is =
    failed_reason c.in-Err.fault _ _ _ _ _ _ c.in-Err.ensures.devices.counts (rw c.reason_of.ensures at is)
