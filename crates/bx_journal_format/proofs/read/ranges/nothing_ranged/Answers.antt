use Rattle.bx_journal_format.proofs.RangeSteps.{none_ranged}
use Rattle.bx_journal_format.proofs.read.ranges.nothing_ranged.Goals as goal

pub returns-clause-ranged : goal.returns-clause-ranged
returns-clause-ranged c = none_ranged
