use Rattle.std.proofs.Common.{rules}
use Rattle.bx_journal_store.proofs.file.FileTextTextStore.faults.Goals as goal

pub returns : goal.returns
returns g c = search rules
