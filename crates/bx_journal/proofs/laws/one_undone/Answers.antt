use Rattle.bx_journal_protocol.proofs.RedoText.{redo_is_one}
use Rattle.bx_journal.proofs.laws.one_undone.Goals as goal

pub returns : goal.returns
returns c = redo_is_one
