use Rattle.std.proofs.Common.{rules}
use Rattle.bx_dump.proofs.od.lines.address_of.Goals as goal

pub returns-in-Decimal : goal.returns-in-Decimal
returns-in-Decimal c = search rules
