use Rattle.std.proofs.Common.{refl}
use Rattle.bx_journal_format.proofs.LinesLemmas.{none_read}
use Rattle.bx_journal_format.proofs.read.lines.nothing_read.Goals as goal

pub returns-clause-read : goal.returns-clause-read
returns-clause-read g c text older f = none_read text older c.args.front _ c.new.ensures.items refl refl f
