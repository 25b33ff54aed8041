use Rattle.bx_journal.proofs.ShownWritten.{shown_is_written, shows_runs}
use Rattle.bx_journal.proofs.laws.shown_is_written.Goals as goal

pub returns-clause-shown : goal.returns-clause-shown
returns-clause-shown c = shows_runs

pub returns-clause-written : goal.returns-clause-written
returns-clause-written c = shown_is_written
