use Rattle.bx_journal_format.proofs.TallyLemmas.{tallied_none}
use Rattle.bx_journal_format.proofs.read.window.no_entries.Goals as goal

pub returns-clause-tallied : goal.returns-clause-tallied
returns-clause-tallied c only = tallied_none only
