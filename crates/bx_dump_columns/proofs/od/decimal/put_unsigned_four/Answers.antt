use Rattle.std.proofs.Common.{arith, refl, []}
use Rattle.bx_dump_columns.proofs.DigitParts.{led_two}
use Rattle.bx_dump_columns.proofs.od.decimal.put_unsigned_four.Goals as goal

pub returns : goal.returns
returns c =
    rw (c.put_lead.ensures, c.put_eight.ensures)
    (led_two 2 8 c.args.v 100000000 [] refl (omega arith) (omega (arith, c.requires.least)) (omega arith) (omega arith) (omega (arith, c.requires, c.ranges.v)))
