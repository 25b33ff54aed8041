use Rattle.std.proofs.Common.{arith, refl}
use Rattle.bx_dump_columns.proofs.DigitParts.{octal_two}
use Rattle.bx_dump_columns.proofs.od.octal.put_eight.Goals as goal

pub returns : goal.returns
returns c = rw (c.put_pair.ensures, c.put_six.ensures) (octal_two 2 6 c.args.v 262144 refl (omega arith) (omega (arith, c.requires.small)) (omega arith) (omega arith) (omega arith) (omega (arith, c.requires.small)))
