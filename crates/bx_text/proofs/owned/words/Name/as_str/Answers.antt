use Rattle.std.proofs.Common.{rules}
use Rattle.bx_text.proofs.owned.words.Name.as_str.Goals as goal

pub returns : goal.returns
returns g c = search rules
