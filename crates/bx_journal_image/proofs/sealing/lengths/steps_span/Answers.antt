use Rattle.std.proofs.Common.{◌∙◌, ap, length, subst, sym}
use Rattle.bx_journal_model.proofs.TextReads.{read_behind}
use Rattle.bx_journal_image.specs.Seal.{IsStepsSpan}
use Rattle.bx_journal_image.proofs.sealing.lengths.steps_span.Goals as goal

pub span_to-requires-clause-long : goal.span_to-requires-clause-long
span_to-requires-clause-long g c = λ h.
    let read = c.in_ok-len.ensures in
    let before = read.goes_on.faith.0 h in
    read.len before ∙ sym (ap length (read.text before))

pub returns-clause-span : goal.returns-clause-span
returns-clause-span g c = λ h.
    let read = c.in_ok-len.ensures in
    subst (λ t. IsStepsSpan c.args.total t c.in_ok-span.span) (read.text h) (c.in_ok-span.ensures.span (read.goes_on.faith.1 h))
