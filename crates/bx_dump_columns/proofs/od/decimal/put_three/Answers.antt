use Rattle.std.proofs.Common.{◌/◌, ◌++◌, ◌∙◌, ap, arith, refl, false}
use Rattle.std.specs.Fmt.{digits}
use Rattle.bx_text.specs.Field.{left_filled}
use Rattle.bx_dump_columns.proofs.DigitParts.{fixed_two, one_digit}
use Rattle.bx_dump_columns.proofs.od.decimal.put_three.Goals as goal

pub returns : goal.returns
returns c =
    let v = c.args.v in
    ap (λ t. t ++ c.put_two.new.field) c.copy_from_slice.ensures.after
    ∙ ap (λ t. t ++ c.put_two.new.field) (one_digit (v / 100) (omega (arith, c.requires.small)))
    ∙ ap (λ t. left_filled 48 1 (digits 10 false (v / 100)) ++ t) c.put_two.ensures
    ∙ fixed_two 1 2 v 100 refl (omega arith) (omega (arith, c.requires.small)) (omega arith) (omega arith) (omega arith) (omega (arith, c.requires.small))
