use Rattle.std.proofs.Common.{rules}
use Rattle.bx_journal.proofs.session.undo.count_left.Goals as goal

pub returns : goal.returns
returns c = search rules
