use Rattle.std.proofs.Common.{rules}
use Rattle.bx_journal_store.proofs.file.FileTextTextStore.read_all.Goals as goal

pub returns-in-Err-DeviceFailed-clause-goes_on : goal.returns-in-Err-DeviceFailed-clause-goes_on
returns-in-Err-DeviceFailed-clause-goes_on g c = search rules
