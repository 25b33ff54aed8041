use Rattle.std.proofs.Common.{◌≡◌, ◌∙◌, ◌+◌, ◌++◌, ap, arith, length, length-append, append_assoc}
use Rattle.bx_journal_format.specs.Hex.{hex_digits}
use Rattle.bx_journal_format.proofs.FieldText.{field_digits}
use Rattle.bx_journal_format.proofs.HexLemmas.{length-hex_digits}
use Rattle.bx_journal_image.proofs.line.form.push_field.Goals as goal

pub push_all-requires-2 : goal.push_all-requires-2
push_all-requires-2 c =
    let is : c.as_bytes.result.now ≡ hex_digits c.args.width c.args.n = c.as_bytes.ensures.value ∙ c.hex_field.ensures ∙ field_digits c.args.width c.args.n c.requires.some c.requires.wide c.requires.fits in
    let long : length c.as_bytes.result.now ≡ c.args.width = ap length is ∙ length-hex_digits c.args.width c.args.n in
    omega (arith, long, c.requires.room, ap length c.push_all.ensures, length-append c.args.line.now c.args.word.now)

pub returns-clause-text : goal.returns-clause-text
returns-clause-text c =
    let is : c.as_bytes.result.now ≡ hex_digits c.args.width c.args.n = c.as_bytes.ensures.value ∙ c.hex_field.ensures ∙ field_digits c.args.width c.args.n c.requires.some c.requires.wide c.requires.fits in
    c.push_all-2.ensures ∙ ap (λ t. t ++ c.as_bytes.result.now) c.push_all.ensures ∙ ap (λ t. (c.args.line.now ++ c.args.word.now) ++ t) is
    ∙ append_assoc c.args.line.now c.args.word.now (hex_digits c.args.width c.args.n)

pub returns-clause-long : goal.returns-clause-long
returns-clause-long c =
    let is : c.as_bytes.result.now ≡ hex_digits c.args.width c.args.n = c.as_bytes.ensures.value ∙ c.hex_field.ensures ∙ field_digits c.args.width c.args.n c.requires.some c.requires.wide c.requires.fits in
    let long : length c.as_bytes.result.now ≡ c.args.width = ap length is ∙ length-hex_digits c.args.width c.args.n in
    let first : length c.push_all.new.self ≡ length c.args.line.now + length c.args.word.now = ap length c.push_all.ensures ∙ length-append c.args.line.now c.args.word.now in
    omega (arith, ap length c.push_all-2.ensures, length-append c.push_all.new.self c.as_bytes.result.now, first, long)
