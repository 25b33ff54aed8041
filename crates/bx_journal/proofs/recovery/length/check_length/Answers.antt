use Rattle.std.proofs.Common.{rules}
use Rattle.bx_journal.proofs.recovery.length.check_length.Goals as goal

pub returns-clause-same_length : goal.returns-clause-same_length
returns-clause-same_length g c = search rules
