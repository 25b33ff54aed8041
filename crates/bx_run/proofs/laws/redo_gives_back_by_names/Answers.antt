use Rattle.bx_run.proofs.HistoryLemmas.{redo_by_names}
use Rattle.bx_run.proofs.laws.redo_gives_back_by_names.Goals as goal

pub returns : goal.returns
returns g c = redo_by_names g.R.Read.remaining
