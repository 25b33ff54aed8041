use Rattle.std.proofs.Common.{rules}
use Rattle.bx_text.proofs.owned.words.Words.len.Goals as goal

pub returns : goal.returns
returns g c = search rules
