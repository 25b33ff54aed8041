use Rattle.std.proofs.Common.{rules}
use Rattle.bx_dump_columns.proofs.od.fixed.put_number.Goals as goal

pub returns-in-Hexadecimal : goal.returns-in-Hexadecimal
returns-in-Hexadecimal c = search rules
