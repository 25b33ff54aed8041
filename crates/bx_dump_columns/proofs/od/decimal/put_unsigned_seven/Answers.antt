use Rattle.std.proofs.Common.{◌/◌, ◌%◌, false, ◌++◌, ◌∙◌, arith, refl, ap, []}
use Rattle.std.specs.Fmt.{digits}
use Rattle.bx_text.specs.Field.{left_filled}
use Rattle.bx_dump_columns.proofs.DigitParts.{led_two, two_spaces, digits_few}
use Rattle.bx_dump_columns.proofs.od.decimal.put_unsigned_seven.Goals as goal

pub returns : goal.returns
returns c =
    let v = c.args.v in
    (λ i. (c.copy_from_slice.ensures.after i ++ c.put_lead.ensures i) ++ c.put_six.ensures i)
    ∙ ap (λ t. t ++ left_filled 48 6 (digits 10 false (v % 1000000))) (two_spaces 2 _ (digits_few 10 (omega arith) 2 (v / 1000000) (omega arith) (omega arith) (omega (arith, c.requires.small))))
    ∙ led_two 4 6 v 1000000 [] refl (omega arith) (omega (arith, c.requires.least)) (omega arith) (omega arith) (omega (arith, c.requires.small))
