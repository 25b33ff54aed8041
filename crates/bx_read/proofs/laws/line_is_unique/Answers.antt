use Rattle.bx_read.proofs.PieceLemmas.{unique}
use Rattle.bx_read.proofs.laws.line_is_unique.Goals as goal

pub returns : goal.returns
returns c = unique
