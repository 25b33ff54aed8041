use Rattle.std.proofs.Common.{subst}
use Rattle.std.proofs.lemmas.Result.{on_ok_weaker}
use Rattle.bx_image.specs.Change.{AreBytes}
use Rattle.bx_journal_protocol.proofs.write.look.look_part.Goals as goal

pub returns-clause-bytes : goal.returns-clause-bytes
returns-clause-bytes g c faithful = on_ok_weaker c.read_at-result.result (λ is. subst AreBytes is c.are_bytes.ensures) (c.read_at-result.ensures.bytes faithful)
