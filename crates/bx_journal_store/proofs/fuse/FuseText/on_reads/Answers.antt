use Rattle.std.proofs.Common.{rules}
use Rattle.bx_journal_store.proofs.fuse.FuseText.on_reads.Goals as goal

pub returns-clause-reads : goal.returns-clause-reads
returns-clause-reads g c = search rules
