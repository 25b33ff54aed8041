use Rattle.std.proofs.Common.{arith, refl, ℕ, List, [], ◌∷◌, if◌then◌else◌}
use Rattle.bx_dump_columns.proofs.DigitParts.{led_two}
use Rattle.bx_dump_columns.proofs.od.decimal.put_signed_eight.Goals as goal

pub returns : goal.returns
returns c =
    let sign : List ℕ = if c.args.negative then 45 ∷ [] else [] in
    rw (c.put_signed_top.ensures, c.put_sixteen.ensures)
    (led_two 4 16 c.args.v 10000000000000000 sign refl (omega arith) (omega (arith, c.requires.least)) (omega arith) (omega arith) (omega (arith, c.requires, c.ranges.v)))
