use Rattle.std.proofs.Common.{[]}
use Rattle.bx_read.proofs.sources.read_plain_from.Goals as goal

pub returns-clause-none_left : goal.returns-clause-none_left
returns-clause-none_left g c = λ ended. c.finish-bytes.ensures.exact [] (c.in-Ok.ensures.none_left ended)
