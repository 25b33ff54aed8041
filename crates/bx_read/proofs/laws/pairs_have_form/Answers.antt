use Rattle.bx_read.proofs.PairLaws.{pairs_have_form}
use Rattle.bx_read.proofs.laws.pairs_have_form.Goals as goal

pub returns : goal.returns
returns c = pairs_have_form
