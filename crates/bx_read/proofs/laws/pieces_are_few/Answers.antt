use Rattle.bx_read.specs.Text.{lines_of}
use Rattle.bx_read.proofs.DumpLemmas.{few_pieces, few_bytes}
use Rattle.bx_read.proofs.laws.pieces_are_few.Goals as goal

pub returns : goal.returns
returns c = λ text pieces is. (few_pieces (lines_of text) pieces is, few_bytes text pieces is)
