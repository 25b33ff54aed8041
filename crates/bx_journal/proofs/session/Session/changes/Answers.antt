use Rattle.std.proofs.Common.{rules}
use Rattle.bx_journal.proofs.session.Session.changes.Goals as goal

pub returns : goal.returns
returns g c = search rules
