use Rattle.std.proofs.Common.{rules}
use Rattle.bx_text.proofs.number.field.oct_field.Goals as goal

pub returns : goal.returns
returns c = search rules
