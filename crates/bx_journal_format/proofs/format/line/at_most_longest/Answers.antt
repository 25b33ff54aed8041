use Rattle.std.proofs.Common.{rules}
use Rattle.bx_journal_format.proofs.format.line.at_most_longest.Goals as goal

pub returns-then-n-le-MAX_LEN : goal.returns-then-n-le-MAX_LEN
returns-then-n-le-MAX_LEN c = search rules
