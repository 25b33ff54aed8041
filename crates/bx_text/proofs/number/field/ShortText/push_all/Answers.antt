use Rattle.std.proofs.Common.{arith}
use Rattle.std.proofs.lemmas.Grind.{common_steps}
use Rattle.bx_text.proofs.number.field.ShortText.push_all.Goals as goal

pub returns : goal.returns
returns g c = grind (arith, common_steps)
