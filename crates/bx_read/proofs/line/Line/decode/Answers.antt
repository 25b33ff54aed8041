use Rattle.std.proofs.Common.{rules}
use Rattle.bx_read.proofs.line.Line.decode.Goals as goal

pub returns-clause-bytes : goal.returns-clause-bytes
returns-clause-bytes c = search rules

pub returns-clause-rest : goal.returns-clause-rest
returns-clause-rest c = search rules

pub returns-clause-some : goal.returns-clause-some
returns-clause-some c = search rules
