use Rattle.std.proofs.Common.{arith}
use Rattle.bx_run.proofs.laws.missing_is_empty.Goals as goal

pub returns-clause-unchanged : goal.returns-clause-unchanged
returns-clause-unchanged c names w journal redo = rw (journal, redo) (c.empty_text_is_sound.ensures _, c.empty_is_redo.ensures _ 0 (omega arith))

pub returns-clause-empty : goal.returns-clause-empty
returns-clause-empty c names w image journal redo =
    rw (image, journal, redo) (c.empty_text_is_sound.ensures _, c.empty_is_redo.ensures _ 0 (omega arith))
