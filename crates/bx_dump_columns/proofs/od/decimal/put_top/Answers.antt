use Rattle.std.proofs.Common.{arith, refl, []}
use Rattle.bx_dump_columns.proofs.DigitParts.{led_two}
use Rattle.bx_dump_columns.proofs.od.decimal.put_top.Goals as goal

pub returns-else-v-lt100 : goal.returns-else-v-lt100
returns-else-v-lt100 c =
    rw (c.put_lead-else-v-lt100.ensures, c.put_two.ensures) (led_two 2 2 c.args.v 100 [] refl (omega arith) (omega (arith, c.if-v-lt100.false)) (omega arith) (omega arith) (omega (arith, c.requires.small)))
