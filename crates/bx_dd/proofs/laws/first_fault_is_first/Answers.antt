use Rattle.bx_dd.proofs.LawLemmas.{first_fault_is_first}
use Rattle.bx_dd.proofs.laws.first_fault_is_first.Goals as goal

pub returns : goal.returns
returns c = first_fault_is_first
