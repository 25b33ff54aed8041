use Rattle.bx_dd.proofs.OperandLaws.{words_are_asked_for}
use Rattle.bx_dd.proofs.laws.words_are_asked_for.Goals as goal

pub returns : goal.returns
returns c = words_are_asked_for
