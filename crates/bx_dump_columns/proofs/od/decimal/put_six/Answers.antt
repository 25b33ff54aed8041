use Rattle.std.proofs.Common.{arith, refl}
use Rattle.bx_dump_columns.proofs.DigitParts.{fixed_two}
use Rattle.bx_dump_columns.proofs.od.decimal.put_six.Goals as goal

pub returns : goal.returns
returns c = rw (c.put_two.ensures, c.put_four.ensures) (fixed_two 2 4 c.args.v 10000 refl (omega arith) (omega (arith, c.requires.small)) (omega arith) (omega arith) (omega arith) (omega (arith, c.requires.small)))
