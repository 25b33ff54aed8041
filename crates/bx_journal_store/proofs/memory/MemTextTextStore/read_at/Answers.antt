use Rattle.std.proofs.Common.{rules}
use Rattle.bx_journal_store.proofs.memory.MemTextTextStore.read_at.Goals as goal

pub returns-clause-bytes : goal.returns-clause-bytes
returns-clause-bytes g c = search rules
