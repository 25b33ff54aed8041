use Rattle.bx_dump.proofs.BehindLemmas.{rest_asks_behind}
use Rattle.bx_dump.proofs.laws.rest_asks_behind.Goals as goal

pub returns : goal.returns
returns c = rest_asks_behind
