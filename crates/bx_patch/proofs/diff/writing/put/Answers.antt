use Rattle.std.proofs.Common.{arith}
use Rattle.bx_patch.proofs.WritingLemmas.{put_failed}
use Rattle.bx_patch.proofs.diff.writing.put.Goals as goal

pub returns-in-Err-WriteFailed-clause-part : goal.returns-in-Err-WriteFailed-clause-part
returns-in-Err-WriteFailed-clause-part g c =
    put_failed c.in-Err-WriteFailed.written c.saturating_add-in-Err-WriteFailed.result c.args.before _ _ c.args.bytes.now
    (omega (arith, c.saturating_add-in-Err-WriteFailed.ensures)) (rw c.in-Err-WriteFailed.field-0-is at c.in-Err-WriteFailed.ensures.err)
