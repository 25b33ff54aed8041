use Rattle.bx_journal_format.proofs.TallyLemmas.{tallied_end}
use Rattle.bx_journal_format.proofs.read.window.counted_by.Goals as goal

pub returns-in-Between-clause-counted : goal.returns-in-Between-clause-counted
returns-in-Between-clause-counted c only text lines h = tallied_end only text c.args.tally lines h c.in-Between.is
