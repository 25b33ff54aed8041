use Rattle.std.proofs.Common.{◌≤◌, arith}
use Rattle.std.proofs.lemmas.Grind.{common_steps}
use Rattle.bx_image.proofs.Survivors.{FadesFrom_fewer}
use Rattle.bx_journal_store.proofs.fuse.cut_half.Goals as goal

pub returns-then-n-len-clause-fades : goal.returns-then-n-len-clause-fades
returns-then-n-len-clause-fades g c faithful =
    let len = c.in_ok-len.ensures in
    FadesFrom_fewer c.args.n _ _ _ _ (omega arith) (len.survives faithful) (c.cut.ensures.fades (len.goes_on.faith.1 faithful))
