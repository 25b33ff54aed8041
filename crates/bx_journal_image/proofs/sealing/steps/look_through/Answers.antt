use Rattle.std.proofs.Common.{length, subst}
use Rattle.bx_journal_image.specs.Seal.{IsStepsSpan}
use Rattle.bx_journal_image.proofs.LookLemmas.{then_text}
use Rattle.bx_journal_image.proofs.sealing.steps.look_through.Goals as goal

pub returns-clause-span : goal.returns-clause-span
returns-clause-span g c = λ hi ht.
    let looks = c.in_ok-blocks.ensures.looks in
    let text = g.T.TextStore.text c.args.text.now in
    subst (λ n. IsStepsSpan n text c.in_ok-span.span) (c.in_ok-blocks.ensures.total hi)
    (subst (λ t. IsStepsSpan c.in_ok-blocks.blocks.total t c.in_ok-span.span) (looks.text.same ht) (c.in_ok-span.ensures.span (looks.text.faith.1 ht)))

pub returns-clause-looks : goal.returns-clause-looks
returns-clause-looks g c = then_text g.D.Device g.T.TextStore c.in_ok-blocks.ensures.looks c.in_ok-span.ensures.reads
