use Rattle.std.proofs.Common.{rules}
use Rattle.bx_journal_format.proofs.format.line.within.Goals as goal

pub returns : goal.returns
returns c = search rules
