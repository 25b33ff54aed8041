use Rattle.std.proofs.Common.{◌∙◌, arith}
use Rattle.bx_journal_protocol.proofs.PageLemmas.{at_err}
use Rattle.bx_journal_protocol.proofs.StepSurvivors.{left_of, partly_cut, cut_survives}
use Rattle.bx_journal_protocol.proofs.protocol.undo_entry.cut_end.Goals as goal

pub returns-in_err-cut-clause-survives : goal.returns-in_err-cut-clause-survives
returns-in_err-cut-clause-survives g c faithful only x below v e begins t y there =
    cut_survives _ x y below v e begins c.args.saved t (left_of _ c.args.saved _ _ (c.requires.within_text faithful) only (c.in_err-cut.ensures.fades faithful) y there)

pub returns-clause-cut : goal.returns-clause-cut
returns-clause-cut g c faithful =
    let cut = c.in_ok-cut.ensures in
    at_err _ (partly_cut _ _ c.args.saved c.args.saved (omega arith) (c.requires.within_text faithful) (c.sync.ensures.text (cut.goes_on.faith.1 faithful) ∙ cut.ok faithful))

pub returns-clause-survives : goal.returns-clause-survives
returns-clause-survives g c faithful only x below v e begins t y there =
    let cut = c.in_ok-cut.ensures in
    cut_survives _ x y below v e begins c.args.saved t (left_of _ c.args.saved _ _ (c.requires.within_text faithful) only (cut.fades faithful) y (c.sync.ensures.survives (cut.goes_on.faith.1 faithful) y there))
