use Rattle.std.proofs.Common.{rules}
use Rattle.bx_journal.proofs.session.Session.undone.Goals as goal

pub returns : goal.returns
returns g c = search rules
