use Rattle.bx_journal_format.proofs.ShownLemmas.{shown_front}
use Rattle.bx_journal_format.proofs.read.shown.faded_is_front.Goals as goal

pub returns : goal.returns
returns c = shown_front
