use Rattle.bx_journal_image.proofs.BlockLaws.{another}
use Rattle.bx_journal_image.proofs.laws.refuses_another.Goals as goal

pub returns : goal.returns
returns c = another
