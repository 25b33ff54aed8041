use Rattle.bx_journal.proofs.LossLaws.{finds_is_found}
use Rattle.bx_journal.proofs.laws.finds_is_found.Goals as goal

pub returns : goal.returns
returns c = finds_is_found
