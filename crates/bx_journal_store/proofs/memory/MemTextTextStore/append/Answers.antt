use Rattle.std.proofs.Common.{rules}
use Rattle.bx_journal_store.proofs.memory.MemTextTextStore.append.Goals as goal

pub returns-clause-ok : goal.returns-clause-ok
returns-clause-ok g c = search rules
