use Rattle.std.proofs.Common.{Some}
use Rattle.bx_journal_format.proofs.ReadLemmas.{told-last}
use Rattle.bx_journal_format.proofs.read.take_line.told_length.Goals as goal

pub returns : goal.returns
returns g c = told-last c.args.entries.now (Some c.in_ok-last.last.now) c.in_ok-last.ensures.value
