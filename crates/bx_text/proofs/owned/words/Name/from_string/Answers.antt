use Rattle.std.proofs.Common.{rules}
use Rattle.bx_text.proofs.owned.words.Name.from_string.Goals as goal

pub returns : goal.returns
returns g c = search rules
