use Rattle.bx_dump.proofs.BehindLemmas.{dumps_behind}
use Rattle.bx_dump.proofs.laws.dumps_behind.Goals as goal

pub returns : goal.returns
returns c = dumps_behind
