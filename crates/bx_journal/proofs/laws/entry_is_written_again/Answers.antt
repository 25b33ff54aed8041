use Rattle.bx_journal.proofs.WrittenAgain.{is_written_again}
use Rattle.bx_journal.proofs.laws.entry_is_written_again.Goals as goal

pub returns : goal.returns
returns g c = is_written_again _ _ _
