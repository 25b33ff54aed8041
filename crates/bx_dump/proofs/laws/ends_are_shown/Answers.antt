use Rattle.bx_dump.proofs.ZerosLemmas.{ends_are_shown}
use Rattle.bx_dump.proofs.laws.ends_are_shown.Goals as goal

pub returns : goal.returns
returns c = ends_are_shown
