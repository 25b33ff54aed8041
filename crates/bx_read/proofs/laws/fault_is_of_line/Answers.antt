use Rattle.bx_read.proofs.FaultLemmas.{fault_is_of_line}
use Rattle.bx_read.proofs.laws.fault_is_of_line.Goals as goal

pub returns : goal.returns
returns c = fault_is_of_line
