use Rattle.std.proofs.Common.{rules}
use Rattle.bx_journal_store.proofs.memory.MemText.new.Goals as goal

pub returns : goal.returns
returns g c = search rules
