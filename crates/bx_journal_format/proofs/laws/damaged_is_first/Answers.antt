use Rattle.bx_journal_format.proofs.GrammarLemmas.{damaged_is_first}
use Rattle.bx_journal_format.proofs.laws.damaged_is_first.Goals as goal

pub returns : goal.returns
returns c = damaged_is_first
