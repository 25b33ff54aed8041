use Rattle.std.proofs.Common.{◌-◌, length}
use Rattle.bx_journal_format.proofs.OverLemmas.{IsExtended}
use Rattle.bx_journal_format.proofs.read.runs.reuse_text.extend_over.Given as goal

abbrev pub invariant-loop-more : goal.invariant-loop-more
invariant-loop-more l = IsExtended l.len l.at l.size l.from l.fn.text l.text l.count

abbrev pub decreases-loop-more : goal.decreases-loop-more
decreases-loop-more l = length l.text - l.count
