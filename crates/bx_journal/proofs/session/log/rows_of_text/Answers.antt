use Rattle.bx_journal.proofs.ListLemmas.{rows_behind}
use Rattle.bx_journal.proofs.session.log.rows_of_text.Goals as goal

pub returns-in-None : goal.returns-in-None
returns-in-None g c = rows_behind g.T.TextStore c.in-Ok.ensures.looks c.rows_in_windows.ensures.survives c.rows_of_whole.result c.rows_of_whole.ensures
