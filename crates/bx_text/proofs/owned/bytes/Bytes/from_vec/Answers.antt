use Rattle.std.proofs.Common.{rules}
use Rattle.bx_text.proofs.owned.bytes.Bytes.from_vec.Goals as goal

pub returns : goal.returns
returns g c = search rules
