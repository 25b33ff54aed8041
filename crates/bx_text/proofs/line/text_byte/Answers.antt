use Rattle.std.proofs.Common.{rules}
use Rattle.bx_text.proofs.line.text_byte.Goals as goal

pub returns-then-contains : goal.returns-then-contains
returns-then-contains c = search rules
