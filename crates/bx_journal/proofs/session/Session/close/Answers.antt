use Rattle.std.proofs.Common.{rules}
use Rattle.bx_journal.proofs.session.Session.close.Goals as goal

pub returns-clause-journal : goal.returns-clause-journal
returns-clause-journal g c = search rules
