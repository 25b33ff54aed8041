use Rattle.std.proofs.Common.{rules}
use Rattle.bx_cli.proofs.plan.dd.Goals as goal

pub invariant_of-result : goal.invariant_of-result
invariant_of-result c = search rules

pub invariant_of-result-2 : goal.invariant_of-result-2
invariant_of-result-2 c = search rules
