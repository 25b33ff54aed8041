use Rattle.std.proofs.Common.{rules}
use Rattle.bx_dump.proofs.xxd.rows.Plain.new.Goals as goal

pub returns-clause-upper : goal.returns-clause-upper
returns-clause-upper c = search rules
