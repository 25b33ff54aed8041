use Rattle.std.proofs.Common.{rules}
use Rattle.bx_read.proofs.lines.DumpLines.new.Goals as goal

pub returns : goal.returns
returns c = search rules
