use Rattle.bx_read.specs.Text.{lines_of}
use Rattle.bx_read.proofs.DumpLemmas.{one_list}
use Rattle.bx_read.proofs.laws.text_is_unique.Goals as goal

pub returns : goal.returns
returns c = λ text. one_list (lines_of text)
