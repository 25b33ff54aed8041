use Rattle.std.proofs.Common.{rules}
use Rattle.bx_dd.proofs.operands.operand_fault.Goals as goal

pub returns : goal.returns
returns g c = search rules
