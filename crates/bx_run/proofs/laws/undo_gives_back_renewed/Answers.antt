use Rattle.bx_run.proofs.HistoryLemmas.{undo_of_renewal}
use Rattle.bx_run.proofs.laws.undo_gives_back_renewed.Goals as goal

pub returns : goal.returns
returns g c = undo_of_renewal g.R.Read.remaining g.S.Read.remaining
