use Rattle.bx_journal_image.proofs.NamedLemmas.{recovered_text}
use Rattle.bx_journal_image.proofs.laws.never_refuses_what_is_recovered.Goals as goal

pub returns : goal.returns
returns c = recovered_text
