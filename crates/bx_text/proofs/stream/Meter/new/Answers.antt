use Rattle.std.proofs.Common.{rules}
use Rattle.bx_text.proofs.stream.Meter.new.Goals as goal

pub returns-clause-taken : goal.returns-clause-taken
returns-clause-taken c = search rules
