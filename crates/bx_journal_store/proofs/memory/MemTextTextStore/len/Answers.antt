use Rattle.std.proofs.Common.{rules}
use Rattle.bx_journal_store.proofs.memory.MemTextTextStore.len.Goals as goal

pub returns-clause-len : goal.returns-clause-len
returns-clause-len g c = search rules
