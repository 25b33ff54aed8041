use Rattle.std.proofs.Common.{rules}
use Rattle.bx_journal_store.proofs.memory.MemText.from_vec.Goals as goal

pub returns : goal.returns
returns g c = search rules
