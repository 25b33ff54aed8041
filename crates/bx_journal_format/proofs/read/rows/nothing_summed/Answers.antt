use Rattle.std.proofs.Common.{false}
use Rattle.bx_journal_format.proofs.SumLemmas.{summed_none}
use Rattle.bx_journal_format.proofs.read.rows.nothing_summed.Goals as goal

pub returns : goal.returns
returns c = summed_none c.no_entries.result (c.no_entries.ensures.tallied false)
