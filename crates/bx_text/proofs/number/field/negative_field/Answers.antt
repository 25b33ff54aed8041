use Rattle.std.proofs.Common.{arith, false, ◌-◌, ◌≤◌, ◌∷◌}
use Rattle.std.specs.Fmt.{digits}
use Rattle.bx_text.proofs.FieldLemmas.{filled, length-decimal, one_in_front}
use Rattle.bx_text.proofs.number.field.negative_field.Goals as goal

pub overflow_sub-first : goal.overflow_sub-first
overflow_sub-first c = omega (arith, length-decimal c.args.v c.requires.small, c.put_digits-first.ensures.first)

pub returns : goal.returns
returns c =
    let first = c.put_digits-first.result in
    let text = digits 10 false c.args.v in
    let few = length-decimal c.args.v c.requires.small in
    let some : 1 ≤ first = omega (arith, few, c.put_digits-first.ensures.first) in
    let signed = one_in_front 22 c.args.fill first 45 c.put_digits-first.new.bytes text c.put_digits-first.ensures.digits c.put_digits-first.ensures.first some in
    rw (c.push_all.ensures, c.new-field.ensures, signed)
    (filled 22 c.args.fill c.args.width (first - 1) c.min-start.result (45 ∷ text) (omega (arith, few, c.put_digits-first.ensures.first)) c.requires.width c.min-start.ensures)
