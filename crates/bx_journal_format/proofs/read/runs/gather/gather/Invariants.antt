use Rattle.std.proofs.Common.{◌-◌, length}
use Rattle.bx_journal_format.specs.read.Followed.{IsGathered}
use Rattle.bx_journal_format.proofs.read.runs.gather.gather.Given as goal

abbrev pub invariant-loop-more : goal.invariant-loop-more
invariant-loop-more l = IsGathered l.len l.at l.size l.from l.fn.window l.window l.count

abbrev pub decreases-loop-more : goal.decreases-loop-more
decreases-loop-more l = length l.window - l.count
