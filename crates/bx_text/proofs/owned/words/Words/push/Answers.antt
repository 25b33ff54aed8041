use Rattle.std.proofs.Common.{rules}
use Rattle.bx_text.proofs.owned.words.Words.push.Goals as goal

pub returns-clause-ok : goal.returns-clause-ok
returns-clause-ok g c = search rules
