use Rattle.bx_journal_format.proofs.DigitLanes.{values_are}
use Rattle.bx_journal_format.proofs.format.hex.values_of.Goals as goal

pub returns : goal.returns
returns c = values_are c.args.text c.fits-text.0 c.fits-text.1
