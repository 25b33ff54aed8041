use Rattle.std.proofs.Common.{rules}
use Rattle.bx_dump_columns.proofs.od.fixed.put_signed.Goals as goal

pub returns : goal.returns
returns c = search rules
