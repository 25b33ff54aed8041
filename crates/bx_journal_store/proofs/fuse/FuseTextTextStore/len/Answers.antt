use Rattle.std.proofs.Common.{rules}
use Rattle.bx_journal_store.proofs.fuse.FuseTextTextStore.len.Goals as goal

pub returns-in-Ok-clause-len : goal.returns-in-Ok-clause-len
returns-in-Ok-clause-len g c = search rules
