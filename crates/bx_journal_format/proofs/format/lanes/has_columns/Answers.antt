use Rattle.std.proofs.Common.{take, drop, subst}
use Rattle.std.proofs.lemmas.List.{take_rest}
use Rattle.bx_journal_format.specs.Form.{full_form, HasForm}
use Rattle.bx_journal_format.proofs.FormLemmas.{four_forms}
use Rattle.bx_journal_format.proofs.format.lanes.has_columns.Goals as goal

pub returns : goal.returns
returns c is =
    let text = c.args.text.now in
    four_forms text (c.has_form.ensures c.if-not-has_form.false)
    (subst (λ t. HasForm t (take 16 (drop 16 full_form))) (take_rest text 16) (c.has_form-2.ensures c.if-not-has_form-2.false))
    (subst (λ t. HasForm t (take 16 (drop 32 full_form))) (take_rest text 32) (c.has_form-3.ensures c.if-not-has_form-3.false))
    (subst (λ t. HasForm t (take 16 (drop 35 full_form))) (take_rest text 35) (c.has_form-4.ensures is))
