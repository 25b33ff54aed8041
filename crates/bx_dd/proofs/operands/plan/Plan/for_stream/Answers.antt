use Rattle.std.proofs.Common.{rules}
use Rattle.bx_dd.proofs.operands.plan.Plan.for_stream.Goals as goal

pub returns-clause-refused : goal.returns-clause-refused
returns-clause-refused g c = search rules
