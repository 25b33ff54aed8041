use Rattle.std.proofs.Common.{arith, refl, []}
use Rattle.bx_dump_columns.proofs.DigitParts.{led_two}
use Rattle.bx_dump_columns.proofs.od.decimal.put_unsigned_eight.Goals as goal

pub returns : goal.returns
returns c =
    rw (c.put_top.ensures, c.put_sixteen.ensures)
    (led_two 4 16 c.args.v 10000000000000000 [] refl (omega arith) (omega (arith, c.requires.least)) (omega arith) (omega arith) (omega (arith, c.requires, c.ranges.v)))
