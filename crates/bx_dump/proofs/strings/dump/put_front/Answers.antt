use Rattle.std.proofs.Common.{rules}
use Rattle.bx_dump.proofs.strings.dump.put_front.Goals as goal

pub returns-clause-text : goal.returns-clause-text
returns-clause-text c = search rules
