use Rattle.bx_read.proofs.GrammarLemmas.{read_line-found, read_line-only}
use Rattle.bx_read.proofs.laws.line_has_form.Goals as goal

pub returns : goal.returns
returns c = λ number line at hex. (read_line-found number line at hex, λ is. read_line-only number line at hex is.0 is.1)
