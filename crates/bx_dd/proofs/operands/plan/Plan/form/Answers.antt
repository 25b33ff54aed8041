use Rattle.std.proofs.Common.{rules}
use Rattle.bx_dd.proofs.operands.plan.Plan.form.Goals as goal

pub returns : goal.returns
returns g c = search rules
