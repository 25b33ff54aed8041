use Rattle.std.proofs.Common.{rules}
use Rattle.bx_journal_model.proofs.fault.of_text.Goals as goal

pub returns-in-DeviceFailed : goal.returns-in-DeviceFailed
returns-in-DeviceFailed c = search rules
