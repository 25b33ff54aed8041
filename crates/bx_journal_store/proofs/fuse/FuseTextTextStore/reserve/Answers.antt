use Rattle.std.proofs.Common.{rules}
use Rattle.bx_journal_store.proofs.fuse.FuseTextTextStore.reserve.Goals as goal

pub returns-clause-ok : goal.returns-clause-ok
returns-clause-ok g c = search rules

pub returns-clause-limit : goal.returns-clause-limit
returns-clause-limit g c = search rules
