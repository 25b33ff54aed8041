use Rattle.std.proofs.Common.{rules}
use Rattle.bx_journal_model.proofs.fault.of_image.Goals as goal

pub returns-in-TooLarge : goal.returns-in-TooLarge
returns-in-TooLarge c = search rules
