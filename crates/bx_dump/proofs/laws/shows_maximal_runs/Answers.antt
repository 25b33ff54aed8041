use Rattle.bx_dump.proofs.RunsLemmas.{shows_runs}
use Rattle.bx_dump.proofs.laws.shows_maximal_runs.Goals as goal

pub returns : goal.returns
returns c least offsets x some = shows_runs least offsets x some
