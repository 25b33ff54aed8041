use Rattle.std.proofs.Common.{rules}
use Rattle.bx_journal_store.proofs.file.FileText.new.Goals as goal

pub returns-clause-failures : goal.returns-clause-failures
returns-clause-failures g c = search rules
