use Rattle.std.proofs.Common.{rules}
use Rattle.bx_text.proofs.owned.pieces.Pieces.as_mut_slice.Goals as goal

pub returns : goal.returns
returns g c = search rules
