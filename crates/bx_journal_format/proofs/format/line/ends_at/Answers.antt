use Rattle.std.proofs.Common.{rules}
use Rattle.bx_journal_format.proofs.format.line.ends_at.Goals as goal

pub returns-then-at-run : goal.returns-then-at-run
returns-then-at-run g c = search rules
