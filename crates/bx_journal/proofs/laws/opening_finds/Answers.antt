use Rattle.bx_journal.proofs.LossLaws.{opening_finds}
use Rattle.bx_journal.proofs.laws.opening_finds.Goals as goal

pub returns : goal.returns
returns g c = opening_finds g.D.Device g.T.TextStore
