use Rattle.bx_journal_protocol.proofs.RedoText.{empty_is_redo}
use Rattle.bx_journal.proofs.laws.empty_is_redo.Goals as goal

pub returns : goal.returns
returns c = empty_is_redo
