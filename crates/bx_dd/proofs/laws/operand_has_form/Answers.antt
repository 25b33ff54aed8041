use Rattle.bx_dd.proofs.OperandLaws.{operand_has_form}
use Rattle.bx_dd.proofs.laws.operand_has_form.Goals as goal

pub returns : goal.returns
returns c = operand_has_form
