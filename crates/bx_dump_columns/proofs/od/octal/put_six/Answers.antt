use Rattle.std.proofs.Common.{arith, refl}
use Rattle.bx_dump_columns.proofs.DigitParts.{octal_two}
use Rattle.bx_dump_columns.proofs.od.octal.put_six.Goals as goal

pub returns : goal.returns
returns c = rw (c.put_four.ensures, c.put_pair.ensures) (octal_two 4 2 c.args.v 64 refl (omega arith) (omega (arith, c.requires.small)) (omega arith) (omega arith) (omega arith) (omega (arith, c.requires.small)))
