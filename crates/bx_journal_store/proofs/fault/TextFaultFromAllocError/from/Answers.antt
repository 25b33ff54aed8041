use Rattle.std.proofs.Common.{rules}
use Rattle.bx_journal_store.proofs.fault.TextFaultFromAllocError.from.Goals as goal

pub returns : goal.returns
returns c = search rules
