use Rattle.bx_read.specs.Text.{lines_of}
use Rattle.bx_read.proofs.DumpLemmas.{found, only}
use Rattle.bx_read.proofs.laws.text_has_form.Goals as goal

pub returns : goal.returns
returns c = λ text pieces. (found (lines_of text) 1 pieces, only (lines_of text) 1 pieces)
