use Rattle.bx_dd.proofs.OperandLaws.{operands_have_form}
use Rattle.bx_dd.proofs.laws.operands_have_form.Goals as goal

pub returns : goal.returns
returns c = operands_have_form
