use Rattle.bx_dd.proofs.BehindLemmas.{rest_copies_behind}
use Rattle.bx_dd.proofs.laws.rest_copies_behind.Goals as goal

pub returns : goal.returns
returns g c = rest_copies_behind _
