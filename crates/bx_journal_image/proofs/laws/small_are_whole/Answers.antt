use Rattle.bx_journal_image.proofs.BlockLaws.{whole}
use Rattle.bx_journal_image.proofs.laws.small_are_whole.Goals as goal

pub returns : goal.returns
returns c = whole
