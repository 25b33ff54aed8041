use Rattle.bx_dump.proofs.ZerosLemmas.{plain_without_zeros}
use Rattle.bx_dump.proofs.laws.plain_without_zeros.Goals as goal

pub returns : goal.returns
returns c = plain_without_zeros
