use Rattle.bx_journal_format.proofs.MarkLemmas.{marked_none}
use Rattle.bx_journal_format.proofs.read.marks.nothing_marked.Goals as goal

pub returns : goal.returns
returns c = marked_none c.nothing_summed.result c.nothing_summed.ensures
