use Rattle.bx_read.proofs.LaneLemmas.{values_are}
use Rattle.bx_read.proofs.digits.lanes.values_of.Goals as goal

pub returns : goal.returns
returns c = values_are c.args.text c.fits-text.0 c.fits-text.1
