use Rattle.std.proofs.Common.{rules}
use Rattle.bx_journal_store.proofs.memory.MemText.as_slice.Goals as goal

pub returns : goal.returns
returns g c = search rules
