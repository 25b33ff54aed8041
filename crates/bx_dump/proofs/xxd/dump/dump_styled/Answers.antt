use Rattle.std.proofs.Common.{rules}
use Rattle.bx_dump.proofs.xxd.dump.dump_styled.Goals as goal

pub returns-in-Bits-clause-ok : goal.returns-in-Bits-clause-ok
returns-in-Bits-clause-ok g c = search rules

pub returns-in-Bits-clause-err : goal.returns-in-Bits-clause-err
returns-in-Bits-clause-err g c = search rules
