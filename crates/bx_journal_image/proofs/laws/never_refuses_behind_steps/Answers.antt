use Rattle.bx_journal_image.proofs.BlockLaws.{behind_steps}
use Rattle.bx_journal_image.proofs.laws.never_refuses_behind_steps.Goals as goal

pub returns : goal.returns
returns c = behind_steps
