use Rattle.std.proofs.Common.{rules}
use Rattle.bx_dump_columns.proofs.od.options.Kind.field.Goals as goal

pub returns-in-Unsigned-clause-value : goal.returns-in-Unsigned-clause-value
returns-in-Unsigned-clause-value c = search rules
