use Rattle.std.proofs.Common.{arith}
use Rattle.bx_journal.proofs.recovery.redo.line_at.Goals as goal

pub returns : goal.returns
returns c = omega (arith, c.newlines-count.ensures.lines)
