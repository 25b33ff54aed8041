use Rattle.std.proofs.Common.{rules}
use Rattle.bx_text.proofs.stream.Source.fill.Goals as goal

pub returns-clause-ended : goal.returns-clause-ended
returns-clause-ended g c = search rules

pub returns-clause-lasting : goal.returns-clause-lasting
returns-clause-lasting g c = search rules
