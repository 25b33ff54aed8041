use Rattle.bx_journal_format.proofs.GrammarLemmas.{journal_has_form}
use Rattle.bx_journal_format.proofs.laws.journal_has_form.Goals as goal

pub returns : goal.returns
returns c = journal_has_form
