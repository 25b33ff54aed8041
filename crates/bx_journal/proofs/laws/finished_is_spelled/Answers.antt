use Rattle.bx_journal.proofs.SpelledLaws.{finished_is_spelled}
use Rattle.bx_journal.proofs.laws.finished_is_spelled.Goals as goal

pub returns : goal.returns
returns c = finished_is_spelled
