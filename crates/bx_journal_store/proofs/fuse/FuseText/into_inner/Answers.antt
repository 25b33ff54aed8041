use Rattle.std.proofs.Common.{rules}
use Rattle.bx_journal_store.proofs.fuse.FuseText.into_inner.Goals as goal

pub returns-clause-within : goal.returns-clause-within
returns-clause-within g c = search rules

pub returns-clause-text : goal.returns-clause-text
returns-clause-text g c = search rules

pub returns-clause-room : goal.returns-clause-room
returns-clause-room g c = search rules
