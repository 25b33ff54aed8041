use Rattle.std.proofs.Common.{rules}
use Rattle.bx_text.proofs.owned.bytes.Bytes.into_vec.Goals as goal

pub returns : goal.returns
returns g c = search rules
