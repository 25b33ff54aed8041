use Rattle.std.proofs.Common.{rules}
use Rattle.bx_dd.proofs.operands.plan.Plan.change.Goals as goal

pub returns-clause-change : goal.returns-clause-change
returns-clause-change g c = search rules
