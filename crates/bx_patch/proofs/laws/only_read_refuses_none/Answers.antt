use Rattle.bx_patch.proofs.RefusedLemmas.{still_none}
use Rattle.bx_patch.proofs.laws.only_read_refuses_none.Goals as goal

pub returns : goal.returns
returns g c = still_none g.D.Device
