use Rattle.bx_read.proofs.PairLaws.{plain_has_form}
use Rattle.bx_read.proofs.laws.plain_has_form.Goals as goal

pub returns : goal.returns
returns c = plain_has_form
