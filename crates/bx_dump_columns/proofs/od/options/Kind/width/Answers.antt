use Rattle.std.proofs.Common.{rules}
use Rattle.bx_dump_columns.proofs.od.options.Kind.width.Goals as goal

pub returns-in-Chars-clause-value : goal.returns-in-Chars-clause-value
returns-in-Chars-clause-value c = search rules
