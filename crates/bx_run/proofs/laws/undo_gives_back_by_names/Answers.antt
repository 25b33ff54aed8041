use Rattle.bx_run.proofs.HistoryLemmas.{change_adds_one, undo_gives_back}
use Rattle.bx_run.proofs.laws.undo_gives_back_by_names.Goals as goal

pub returns-clause-back : goal.returns-clause-back
returns-clause-back g c = undo_gives_back _ g.S.Read.remaining (λ names from to change s holds. (change_adds_one g.R.Read.remaining names from to change s holds).0)

pub returns-clause-adds : goal.returns-clause-adds
returns-clause-adds g c = change_adds_one g.R.Read.remaining

pub returns-clause-mixed : goal.returns-clause-mixed
returns-clause-mixed g c = undo_gives_back _ g.S.Read.remaining (λ names from to one. one)
