use Rattle.std.proofs.Common.{rules}
use Rattle.bx_text.proofs.number.read.read_size.Goals as goal

pub returns-in-Some : goal.returns-in-Some
returns-in-Some c = search rules
