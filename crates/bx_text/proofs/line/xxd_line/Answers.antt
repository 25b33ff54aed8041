use Rattle.std.proofs.Common.{rules}
use Rattle.bx_text.proofs.line.xxd_line.Goals as goal

pub returns : goal.returns
returns c = search rules
