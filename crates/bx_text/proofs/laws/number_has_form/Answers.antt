use Rattle.bx_text.proofs.NumberLaws.{number_has_form}
use Rattle.bx_text.proofs.laws.number_has_form.Goals as goal

pub returns : goal.returns
returns c = number_has_form
