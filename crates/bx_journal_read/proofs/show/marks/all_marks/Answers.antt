use Rattle.bx_journal_read.proofs.MarkedLemmas.{marks_behind}
use Rattle.bx_journal_read.proofs.show.marks.all_marks.Goals as goal

pub returns-in-None : goal.returns-in-None
returns-in-None g c = marks_behind c.in-Ok.ensures.looks c.in-Ok.ensures.survives c.refuse_marks.result c.refuse_marks.ensures
