use Rattle.bx_read.proofs.WrittenLemmas.{reads_back}
use Rattle.bx_read.proofs.laws.dump_line_reads_back.Goals as goal

pub returns : goal.returns
returns c = reads_back
