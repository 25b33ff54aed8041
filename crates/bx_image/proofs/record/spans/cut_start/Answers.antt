use Rattle.std.proofs.Common.{rules}
use Rattle.bx_image.proofs.record.spans.cut_start.Goals as goal

pub returns : goal.returns
returns c = search rules
