use Rattle.std.proofs.Common.{rules}
use Rattle.bx_text.proofs.stream.Source.new.Goals as goal

pub returns-clause-limit : goal.returns-clause-limit
returns-clause-limit g c = search rules
