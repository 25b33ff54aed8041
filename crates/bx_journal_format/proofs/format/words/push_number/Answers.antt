use Rattle.std.proofs.Common.{◌≡◌, ◌∙◌, ◌++◌, ap, arith, length, length-append}
use Rattle.bx_journal_format.specs.Hex.{hex_digits}
use Rattle.bx_journal_format.proofs.FieldText.{field_digits}
use Rattle.bx_journal_format.proofs.HexLemmas.{length-hex_digits}
use Rattle.bx_journal_format.proofs.format.words.push_number.Goals as goal

pub push_all-requires : goal.push_all-requires
push_all-requires c =
    let is : c.as_bytes.result.now ≡ hex_digits c.args.width c.args.n = c.as_bytes.ensures.value ∙ c.hex_field.ensures ∙ field_digits c.args.width c.args.n c.requires.some c.requires.wide c.requires.fits in
    let long : length c.as_bytes.result.now ≡ c.args.width = ap length is ∙ length-hex_digits c.args.width c.args.n in
    omega (arith, long, c.requires.room)

pub returns-clause-text : goal.returns-clause-text
returns-clause-text c =
    let is : c.as_bytes.result.now ≡ hex_digits c.args.width c.args.n = c.as_bytes.ensures.value ∙ c.hex_field.ensures ∙ field_digits c.args.width c.args.n c.requires.some c.requires.wide c.requires.fits in
    c.push_all.ensures ∙ ap (λ t. c.args.line.now ++ t) is

pub returns-clause-long : goal.returns-clause-long
returns-clause-long c =
    let is : c.as_bytes.result.now ≡ hex_digits c.args.width c.args.n = c.as_bytes.ensures.value ∙ c.hex_field.ensures ∙ field_digits c.args.width c.args.n c.requires.some c.requires.wide c.requires.fits in
    let long : length c.as_bytes.result.now ≡ c.args.width = ap length is ∙ length-hex_digits c.args.width c.args.n in
    omega (arith, ap length c.push_all.ensures, length-append c.args.line.now c.as_bytes.result.now, long)
