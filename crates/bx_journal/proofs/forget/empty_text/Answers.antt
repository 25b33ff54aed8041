use Rattle.std.proofs.Common.{arith}
use Rattle.bx_journal_protocol.proofs.StepSurvivors.{left_of}
use Rattle.bx_journal.proofs.forget.empty_text.Goals as goal

pub returns-in_err-cut_all-clause-survives : goal.returns-in_err-cut_all-clause-survives
returns-in_err-cut_all-clause-survives g c faithful only = left_of _ 0 _ _ (omega arith) only (c.in_err-cut_all.ensures.fades faithful)

pub returns-clause-survives : goal.returns-clause-survives
returns-clause-survives g c faithful only y there =
    left_of _ 0 _ _ (omega arith) only (c.in_ok-cut_all.ensures.fades faithful) y (c.sync.ensures.survives (c.in_ok-cut_all.ensures.goes_on.faith.1 faithful) y there)
