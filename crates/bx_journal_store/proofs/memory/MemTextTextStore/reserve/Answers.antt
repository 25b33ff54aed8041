use Rattle.std.proofs.Common.{rules}
use Rattle.bx_journal_store.proofs.memory.MemTextTextStore.reserve.Goals as goal

pub returns-in_ok-map_err-clause-limit : goal.returns-in_ok-map_err-clause-limit
returns-in_ok-map_err-clause-limit g c = search rules

pub returns-else-n-capacity-clause-limit : goal.returns-else-n-capacity-clause-limit
returns-else-n-capacity-clause-limit g c = search rules
