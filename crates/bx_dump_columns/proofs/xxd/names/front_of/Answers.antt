use Rattle.std.proofs.Common.{rules}
use Rattle.bx_dump_columns.proofs.xxd.names.front_of.Goals as goal

pub returns-in-48-to-57 : goal.returns-in-48-to-57
returns-in-48-to-57 c = search rules
