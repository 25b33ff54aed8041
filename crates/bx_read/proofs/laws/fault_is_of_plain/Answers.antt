use Rattle.bx_read.proofs.PlainFaultLemmas.{fault_is_of_plain}
use Rattle.bx_read.proofs.laws.fault_is_of_plain.Goals as goal

pub returns : goal.returns
returns c = fault_is_of_plain
