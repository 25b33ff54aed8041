use Rattle.bx_journal.proofs.LossLaws.{openings_find}
use Rattle.bx_journal.proofs.laws.openings_find.Goals as goal

pub returns : goal.returns
returns g c = openings_find g.D.Device g.T.TextStore
