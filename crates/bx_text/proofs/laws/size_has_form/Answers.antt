use Rattle.bx_text.proofs.SizeLaws.{size_has_form}
use Rattle.bx_text.proofs.laws.size_has_form.Goals as goal

pub returns : goal.returns
returns c = size_has_form
