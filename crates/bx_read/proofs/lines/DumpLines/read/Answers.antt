use Rattle.std.proofs.Common.{rules}
use Rattle.bx_read.proofs.lines.DumpLines.read.Goals as goal

pub returns-in-Err-clause-number : goal.returns-in-Err-clause-number
returns-in-Err-clause-number c = search rules
