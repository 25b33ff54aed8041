use Rattle.std.proofs.Common.{rules}
use Rattle.bx_journal_store.proofs.fuse.FuseTextTextStore.read_all.Goals as goal

pub invariant_of-self-2 : goal.invariant_of-self-2
invariant_of-self-2 g c = search rules

pub returns-clause-goes_on : goal.returns-clause-goes_on
returns-clause-goes_on g c = search rules
