use Rattle.bx_dump.proofs.LawLemmas.{items_are_bytes}
use Rattle.bx_dump.proofs.laws.items_are_bytes.Goals as goal

pub returns : goal.returns
returns c = items_are_bytes
