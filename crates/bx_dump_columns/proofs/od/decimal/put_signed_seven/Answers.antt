use Rattle.std.proofs.Common.{◌/◌, ◌%◌, false, ◌++◌, ◌∙◌, arith, refl, ap, ℕ, List, [], ◌∷◌, if◌then◌else◌}
use Rattle.std.specs.Fmt.{digits}
use Rattle.bx_text.specs.Field.{left_filled}
use Rattle.bx_dump_columns.proofs.DigitParts.{led_two, two_spaces, sign_few}
use Rattle.bx_dump_columns.proofs.od.decimal.put_signed_seven.Goals as goal

pub returns : goal.returns
returns c =
    let v = c.args.v in
    let negative = c.args.negative in
    let sign : List ℕ = if negative then 45 ∷ [] else [] in
    (λ i. (c.copy_from_slice.ensures.after i ++ c.put_signed_lead.ensures i) ++ c.put_six.ensures i)
    ∙ ap (λ t. t ++ left_filled 48 6 (digits 10 false (v % 1000000))) (two_spaces 3 _ (sign_few negative (v / 1000000) (omega (arith, c.requires.small))))
    ∙ led_two 5 6 v 1000000 sign refl (omega arith) (omega (arith, c.requires.least)) (omega arith) (omega arith) (omega (arith, c.requires.small))
