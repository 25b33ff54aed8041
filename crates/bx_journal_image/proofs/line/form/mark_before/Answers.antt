use Rattle.std.proofs.Common.{◌∙◌, arith}
use Rattle.bx_journal_image.proofs.MarkLemmas.{mark_long, mark_parts, mark_told}
use Rattle.bx_journal_image.proofs.line.form.mark_before.Goals as goal

pub returns-then-text-lt9 : goal.returns-then-text-lt9
returns-then-text-lt9 c m more fits is = absurd (omega (arith, mark_long m more c.args.text.now is, c.if-text-lt9.true))

pub returns-in-Some : goal.returns-in-Some
returns-in-Some c m more fits is =
    let parts = mark_parts m more c.split_at.result.0.now c.split_at.result.1.now c.split_at-2.result.0.now c.split_at-2.result.1.now c.args.text.now is
    c.split_at.ensures.by_index.0 c.split_at.ensures.front_len c.split_at-2.ensures.by_index.0 c.split_at-2.ensures.front_len in
    (c.in-Some.ensures.value ∙ mark_told m c.split_at-2.result.0.now fits parts.0, parts.1)

pub returns-in-None : goal.returns-in-None
returns-in-None c m more fits is =
    let parts = mark_parts m more c.split_at.result.0.now c.split_at.result.1.now c.split_at-2.result.0.now c.split_at-2.result.1.now c.args.text.now is
    c.split_at.ensures.by_index.0 c.split_at.ensures.front_len c.split_at-2.ensures.by_index.0 c.split_at-2.ensures.front_len in
    (c.in-None.ensures.value ∙ mark_told m c.split_at-2.result.0.now fits parts.0, parts.1)
