use Rattle.std.proofs.Common.{sym}
use Rattle.bx_patch.proofs.LengthLemmas.{begins_else}
use Rattle.bx_patch.proofs.read.lengths.after.Goals as goal

pub returns-else-eq : goal.returns-else-eq
returns-else-eq c = begins_else c.args.text.now c.args.word.now c.split_at.result.0.now c.split_at.ensures.front (sym c.if-eq.ensures)
