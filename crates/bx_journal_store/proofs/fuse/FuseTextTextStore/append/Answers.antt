use Rattle.std.proofs.Common.{rules}
use Rattle.bx_journal_store.proofs.fuse.FuseTextTextStore.append.Goals as goal

pub returns-in-Ok-clause-ok : goal.returns-in-Ok-clause-ok
returns-in-Ok-clause-ok g c = search rules

pub returns-clause-failed : goal.returns-clause-failed
returns-clause-failed g c = search rules
