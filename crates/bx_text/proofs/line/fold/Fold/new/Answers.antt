use Rattle.std.proofs.Common.{rules}
use Rattle.bx_text.proofs.line.fold.Fold.new.Goals as goal

pub returns : goal.returns
returns c = search rules
