use Rattle.bx_dump_columns.proofs.OdDecimal.{eights_are}
use Rattle.bx_dump_columns.proofs.od.decimal_lanes.eights_of.Goals as goal

pub returns-clause-text : goal.returns-clause-text
returns-clause-text c = rw c.twos-twos.ensures (eights_are c.args.a c.args.b c.requires.first c.requires.second)
