use Rattle.bx_read.proofs.WrittenLemmas.{written_line}
use Rattle.bx_read.proofs.laws.written_line_reads_back.Goals as goal

pub returns : goal.returns
returns c = written_line
