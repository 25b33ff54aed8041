use Rattle.std.proofs.Common.{rules}
use Rattle.bx_text.proofs.number.field.ShortText.new.Goals as goal

pub returns : goal.returns
returns g c = search rules
