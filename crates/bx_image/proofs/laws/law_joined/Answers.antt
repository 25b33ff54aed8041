use Rattle.bx_image.proofs.JoinedLemmas.{joined_is_same}
use Rattle.bx_image.proofs.laws.law_joined.Goals as goal

pub returns : goal.returns
returns g c = joined_is_same g.row.A.Denot
