use Rattle.bx_journal_image.proofs.BlockLaws.{right_line}
use Rattle.bx_journal_image.proofs.laws.never_refuses_the_right_image.Goals as goal

pub returns : goal.returns
returns c = right_line
