use Rattle.std.proofs.Common.{arith, refl, ℕ, List, [], ◌∷◌, if◌then◌else◌}
use Rattle.bx_dump_columns.proofs.DigitParts.{led_two}
use Rattle.bx_dump_columns.proofs.od.decimal.put_signed_two.Goals as goal

pub returns : goal.returns
returns c =
    let sign : List ℕ = if c.args.negative then 45 ∷ [] else [] in
    rw (c.put_signed_lead.ensures, c.put_three.ensures)
    (led_two 3 3 c.args.v 1000 sign refl (omega arith) (omega (arith, c.requires.least)) (omega arith) (omega arith) (omega (arith, c.requires, c.ranges.v)))
