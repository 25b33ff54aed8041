use Rattle.std.proofs.Common.{rules}
use Rattle.bx_image.proofs.change.set_length.Goals as goal

-- The search alone, here and below: where it finds nothing, no more is tried.
pub returns-clause-failed : goal.returns-clause-failed
returns-clause-failed g c = search rules

pub returns-clause-survives : goal.returns-clause-survives
returns-clause-survives g c = search rules

pub returns-clause-ok : goal.returns-clause-ok
returns-clause-ok g c = search rules
