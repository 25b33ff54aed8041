use Rattle.std.proofs.Common.{arith, refl}
use Rattle.bx_dump_columns.proofs.DigitParts.{octal_two}
use Rattle.bx_dump_columns.proofs.od.octal.put_twenty_two.Goals as goal

pub returns : goal.returns
returns c = rw (c.put_six.ensures, c.put_sixteen.ensures) (octal_two 6 16 c.args.v 281474976710656 refl (omega arith) (omega (arith, c.ranges.v)) (omega arith) (omega arith) (omega arith) (omega (arith, c.ranges.v)))
