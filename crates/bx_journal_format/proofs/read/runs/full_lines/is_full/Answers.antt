use Rattle.std.proofs.Common.{arith}
use Rattle.bx_journal_format.proofs.FullLemmas.{begins_full}
use Rattle.bx_journal_format.proofs.read.runs.full_lines.is_full.Goals as goal

pub returns : goal.returns
returns c is = begins_full c.args.len c.in-Some.at c.args.text.now c.in-Some.ensures (omega arith)
