use Rattle.std.proofs.Common.{None, inr, subst}
use Rattle.std.proofs.lemmas.List.{get_or-replicate}
use Rattle.bx_journal_model.proofs.TextReads.{failed_through}
use Rattle.bx_journal_image.specs.Unfinished.{IsStruckAt}
use Rattle.bx_journal_image.proofs.sealing.resealing.keep_marks.Goals as goal

pub returns-in-Ok-None-clause-marks : goal.returns-in-Ok-None-clause-marks
returns-in-Ok-None-clause-marks g c = λ h.
    let unread = subst (IsStruckAt c.args.line.now (g.T.TextStore.text c.args.journal.now) c.args.mark) c.in-Ok-None.field-0-is (c.in-Ok-None.ensures.struck h) in
    inr (unread, λ i block. get_or-replicate 32 i None None block)

pub returns-clause-looks : goal.returns-clause-looks
returns-clause-looks g c = failed_through g.T.TextStore c.in-Err.ensures.reads
