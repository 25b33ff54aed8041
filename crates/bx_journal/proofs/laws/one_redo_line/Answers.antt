use Rattle.bx_journal.proofs.Refused.{one_redo_line}
use Rattle.bx_journal.proofs.laws.one_redo_line.Goals as goal

pub returns : goal.returns
returns c = one_redo_line
