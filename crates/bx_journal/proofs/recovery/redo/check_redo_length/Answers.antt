use Rattle.std.proofs.Common.{rules}
use Rattle.bx_journal.proofs.recovery.redo.check_redo_length.Goals as goal

pub returns-then-len-expected-clause-fault : goal.returns-then-len-expected-clause-fault
returns-then-len-expected-clause-fault g c = search rules

pub returns-clause-same_length : goal.returns-clause-same_length
returns-clause-same_length g c = search rules
