use Rattle.bx_journal_protocol.proofs.LawProofs.{empty_is_sound}
use Rattle.bx_journal.proofs.laws.empty_text_is_sound.Goals as goal

pub returns : goal.returns
returns c = empty_is_sound
