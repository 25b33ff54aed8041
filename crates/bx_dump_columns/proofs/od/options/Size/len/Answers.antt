use Rattle.std.proofs.Common.{rules}
use Rattle.bx_dump_columns.proofs.od.options.Size.len.Goals as goal

pub returns-in-Four-clause-value : goal.returns-in-Four-clause-value
returns-in-Four-clause-value c = search rules
