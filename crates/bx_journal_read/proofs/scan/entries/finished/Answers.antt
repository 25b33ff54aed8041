use Rattle.std.proofs.Common.{arith}
use Rattle.bx_journal_read.proofs.AgainLemmas.{not_counted, not_whole}
use Rattle.bx_journal_read.proofs.scan.entries.finished.Goals as goal

pub returns-then-len-count-clause-none : goal.returns-then-len-count-clause-none
returns-then-len-count-clause-none g c text read long = not_counted text c.args.journal c.args.count read (λ e. omega arith)

pub returns-then-whole-len-clause-none : goal.returns-then-whole-len-clause-none
returns-then-whole-len-clause-none g c text read long = not_whole text c.args.journal c.args.count read (λ e. omega (arith, long))
