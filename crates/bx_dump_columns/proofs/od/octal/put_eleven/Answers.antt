use Rattle.std.proofs.Common.{arith, refl}
use Rattle.bx_dump_columns.proofs.DigitParts.{octal_two}
use Rattle.bx_dump_columns.proofs.od.octal.put_eleven.Goals as goal

pub returns : goal.returns
returns c = rw (c.put_three.ensures, c.put_eight.ensures) (octal_two 3 8 c.args.v 16777216 refl (omega arith) (omega (arith, c.ranges.v)) (omega arith) (omega arith) (omega arith) (omega (arith, c.ranges.v)))
