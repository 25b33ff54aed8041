use Rattle.std.proofs.Common.{rules}
use Rattle.bx_text.proofs.line.blank.Goals as goal

pub loop-cell-preserved : goal.loop-cell-preserved
loop-cell-preserved c = search rules
