use Rattle.bx_patch.proofs.WritingLemmas.{begin_failed}
use Rattle.bx_patch.proofs.diff.writing.begin.Goals as goal

pub returns-in-Err-clause-part : goal.returns-in-Err-clause-part
returns-in-Err-clause-part g c = λ lines first put.
    begin_failed c.in-Err.fault c.args.head.now lines c.args.writing.now.number c.args.writing.now.written first _ _ c.if-writing-gt0.false put c.in-Err.ensures.part
