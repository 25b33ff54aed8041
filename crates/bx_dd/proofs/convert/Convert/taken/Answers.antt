use Rattle.std.proofs.Common.{rules}
use Rattle.bx_dd.proofs.convert.Convert.taken.Goals as goal

pub returns-clause-taken : goal.returns-clause-taken
returns-clause-taken g c = search rules

pub returns-clause-given : goal.returns-clause-given
returns-clause-given g c = search rules
