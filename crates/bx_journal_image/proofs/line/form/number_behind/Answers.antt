use Rattle.std.proofs.Common.{◌≡◌, sym, ◌∙◌, arith, Some, None}
use Rattle.bx_journal_image.proofs.LineLemmas.{field_long, number_is, parts_of, power_some}
use Rattle.bx_journal_image.proofs.line.form.number_behind.Goals as goal

pub returns-then-text-word-clause-is : goal.returns-then-text-word-clause-is
returns-then-text-word-clause-is c front more n long fits is =
    absurd (omega (arith, field_long front more c.args.text.now c.args.width n is, long, c.if-text-word.true))

pub returns-then-text-word-clause-fits : goal.returns-then-text-word-clause-fits
returns-then-text-word-clause-fits c = power_some c.args.width

pub returns-in-Some-clause-is : goal.returns-in-Some-clause-is
returns-in-Some-clause-is c front more n long fits is =
    let parts = parts_of front more c.split_at.result.0.now c.split_at.result.1.now c.split_at-2.result.0.now c.split_at-2.result.1.now c.args.text.now c.args.width n is
    c.split_at.ensures.by_index.0 (c.split_at.ensures.front_len ∙ sym long) c.split_at-2.ensures.by_index.0 c.split_at-2.ensures.front_len in
    let same : Some c.in-Some.number ≡ Some n = c.in-Some.ensures.value ∙ number_is c.split_at-2.result.0.now c.args.width n fits parts.0 in
    let number : c.in-Some.number ≡ n = cc in
    (number, parts.1)

pub returns-in-None-clause-is : goal.returns-in-None-clause-is
returns-in-None-clause-is c front more n long fits is =
    let parts = parts_of front more c.split_at.result.0.now c.split_at.result.1.now c.split_at-2.result.0.now c.split_at-2.result.1.now c.args.text.now c.args.width n is
    c.split_at.ensures.by_index.0 (c.split_at.ensures.front_len ∙ sym long) c.split_at-2.ensures.by_index.0 c.split_at-2.ensures.front_len in
    let wrong : None ≡ Some n = c.in-None.ensures.value ∙ number_is c.split_at-2.result.0.now c.args.width n fits parts.0 in
    absurd (cc)

pub returns-in-None-clause-fits : goal.returns-in-None-clause-fits
returns-in-None-clause-fits c = power_some c.args.width
