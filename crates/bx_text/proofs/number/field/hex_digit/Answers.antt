use Rattle.std.proofs.Common.{rules}
use Rattle.bx_text.proofs.number.field.hex_digit.Goals as goal

pub returns-else-upper : goal.returns-else-upper
returns-else-upper c = search rules
