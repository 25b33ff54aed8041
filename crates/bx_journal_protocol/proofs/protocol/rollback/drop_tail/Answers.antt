use Rattle.std.proofs.Common.{sym, ◌∙◌, arith}
use Rattle.std.proofs.lemmas.Result.{on_ok_weaker}
use Rattle.bx_journal_protocol.proofs.PageLemmas.{at_err}
use Rattle.bx_journal_protocol.proofs.FirstLemmas.{cut_twice, first_behind, front_faded, take_part}
use Rattle.bx_journal_format.proofs.ShownLemmas.{take_shown}
use Rattle.bx_journal_protocol.proofs.StepSurvivors.{left_of, partly_cut, partly_faded, tail_left, tail_survives}
use Rattle.bx_journal_model.proofs.Tails.{tail_ok, tail_fault}
use Rattle.bx_journal_protocol.proofs.protocol.rollback.drop_tail.Goals as goal

pub returns-in_err-keep_first-clause-fault : goal.returns-in_err-keep_first-clause-fault
returns-in_err-keep_first-clause-fault g c faithful x stack es stage tail same =
    at_err _ (tail_fault _ _ x stack es stage _ tail same (c.in_err-keep_first.ensures.part faithful))

pub returns-in_err-keep_first-clause-survives : goal.returns-in_err-keep_first-clause-survives
returns-in_err-keep_first-clause-survives g c faithful only x stack es stage tail whole same y there =
    let left = c.in_err-keep_first.ensures.survives faithful only y there in
    tail_survives _ x y stack es stage c.args.begins tail whole same left.0 left.1

pub returns-in_err-keep_first-clause-shown_stops : goal.returns-in_err-keep_first-clause-shown_stops
returns-in_err-keep_first-clause-shown_stops g c faithful x stack es stage tail same =
    let kept = c.in_err-keep_first.ensures in
    at_err _ (tail_left _ x _ stack es stage c.args.begins tail same (partly_faded c.args.begins _ _ (kept.part faithful)) (kept.first faithful))

pub returns-in_err-keep_first-clause-shown_survives : goal.returns-in_err-keep_first-clause-shown_survives
returns-in_err-keep_first-clause-shown_survives g c faithful only x stack es stage tail same y there =
    let left = c.in_err-keep_first.ensures.survives faithful only y there in
    tail_left _ x y stack es stage c.args.begins tail same left.0 left.1

pub cut-requires-clause-within : goal.cut-requires-clause-within
cut-requires-clause-within g c still =
    let kept = c.in_ok-keep_first.ensures in
    (kept.part (kept.goes_on.faith.0 still)).no_shorter

pub returns-in_err-cut-clause-fault : goal.returns-in_err-cut-clause-fault
returns-in_err-cut-clause-fault g c faithful x stack es stage tail same =
    let kept = c.in_ok-keep_first.ensures in
    at_err _ (tail_fault _ _ x stack es stage _ tail same (cut_twice c.args.begins _ _ _ (kept.part faithful) (c.in_err-cut.ensures.failed (kept.goes_on.faith.1 faithful))))

pub returns-in_err-cut-clause-survives : goal.returns-in_err-cut-clause-survives
returns-in_err-cut-clause-survives g c faithful only x stack es stage tail whole same y there =
    let kept = c.in_ok-keep_first.ensures in
    let part = kept.part faithful in
    let left = left_of _ c.args.begins _ _ part.no_shorter (kept.settled faithful only) (c.in_err-cut.ensures.fades (kept.goes_on.faith.1 faithful)) y there in
    tail_survives _ x y stack es stage c.args.begins tail whole same (front_faded c.args.begins _ _ y part left) (first_behind c.args.begins _ _ y part (kept.short faithful) left)

pub returns-in_err-cut-clause-shown_stops : goal.returns-in_err-cut-clause-shown_stops
returns-in_err-cut-clause-shown_stops g c faithful x stack es stage tail same =
    let kept = c.in_ok-keep_first.ensures in
    let part = kept.part faithful in
    let left = partly_faded c.args.begins _ _ (c.in_err-cut.ensures.failed (kept.goes_on.faith.1 faithful)) in
    at_err _ (tail_left _ x _ stack es stage c.args.begins tail same (front_faded c.args.begins _ _ _ part left) (first_behind c.args.begins _ _ _ part (kept.short faithful) left))

pub returns-in_err-cut-clause-shown_survives : goal.returns-in_err-cut-clause-shown_survives
returns-in_err-cut-clause-shown_survives g c faithful only x stack es stage tail same y there =
    let kept = c.in_ok-keep_first.ensures in
    let part = kept.part faithful in
    let left = left_of _ c.args.begins _ _ part.no_shorter (kept.settled faithful only) (c.in_err-cut.ensures.fades (kept.goes_on.faith.1 faithful)) y there in
    tail_left _ x y stack es stage c.args.begins tail same (front_faded c.args.begins _ _ y part left) (first_behind c.args.begins _ _ y part (kept.short faithful) left)

pub returns-clause-ok : goal.returns-clause-ok
returns-clause-ok g c faithful x stack es stage tail same =
    let kept = c.in_ok-keep_first.ensures in
    let cut = c.in_ok-cut.ensures in
    let here = kept.goes_on.faith.1 faithful in
    let still = cut.goes_on.faith.1 here in
    on_ok_weaker c.sync.result
    (λ _. tail_ok _ _ x x stack es stage _ tail (sym same) (c.sync.ensures.text still ∙ cut.ok here ∙ take_part c.args.begins _ _ (kept.part faithful))) (c.sync.ensures.settled still)

pub returns-clause-fault : goal.returns-clause-fault
returns-clause-fault g c faithful x stack es stage tail same =
    let kept = c.in_ok-keep_first.ensures in
    let cut = c.in_ok-cut.ensures in
    let here = kept.goes_on.faith.1 faithful in
    at_err _ (tail_fault _ _ x stack es stage _ tail same (partly_cut _ _ c.args.begins c.args.begins (omega arith) (c.requires.within_text faithful)
    (c.sync.ensures.text (cut.goes_on.faith.1 here) ∙ cut.ok here ∙ take_part c.args.begins _ _ (kept.part faithful))))

pub returns-clause-survives : goal.returns-clause-survives
returns-clause-survives g c faithful only x stack es stage tail whole same y there =
    let kept = c.in_ok-keep_first.ensures in
    let cut = c.in_ok-cut.ensures in
    let here = kept.goes_on.faith.1 faithful in
    let part = kept.part faithful in
    let left = left_of _ c.args.begins _ _ part.no_shorter (kept.settled faithful only) (cut.fades here) y (c.sync.ensures.survives (cut.goes_on.faith.1 here) y there) in
    tail_survives _ x y stack es stage c.args.begins tail whole same (front_faded c.args.begins _ _ y part left) (first_behind c.args.begins _ _ y part (kept.short faithful) left)

pub returns-clause-shown_rests : goal.returns-clause-shown_rests
returns-clause-shown_rests g c faithful x stack es stage tail same =
    let kept = c.in_ok-keep_first.ensures in
    let cut = c.in_ok-cut.ensures in
    let here = kept.goes_on.faith.1 faithful in
    let still = cut.goes_on.faith.1 here in
    on_ok_weaker c.sync.result
    (λ _. tail_ok _ _ x x stack es stage _ tail (sym same)
    (c.sync.ensures.text still ∙ cut.ok here ∙ take_part c.args.begins _ _ (kept.part faithful) ∙ take_shown c.args.begins _ tail.mark.within)) (c.sync.ensures.settled still)

pub returns-clause-shown_stops : goal.returns-clause-shown_stops
returns-clause-shown_stops g c faithful x stack es stage tail same =
    let kept = c.in_ok-keep_first.ensures in
    let cut = c.in_ok-cut.ensures in
    let here = kept.goes_on.faith.1 faithful in
    let part = kept.part faithful in
    let left = partly_faded c.args.begins _ _ (partly_cut _ _ c.args.begins c.args.begins (omega arith) part.no_shorter (c.sync.ensures.text (cut.goes_on.faith.1 here) ∙ cut.ok here)) in
    at_err _ (tail_left _ x _ stack es stage c.args.begins tail same (front_faded c.args.begins _ _ _ part left) (first_behind c.args.begins _ _ _ part (kept.short faithful) left))

pub returns-clause-shown_survives : goal.returns-clause-shown_survives
returns-clause-shown_survives g c faithful only x stack es stage tail same y there =
    let kept = c.in_ok-keep_first.ensures in
    let cut = c.in_ok-cut.ensures in
    let here = kept.goes_on.faith.1 faithful in
    let part = kept.part faithful in
    let left = left_of _ c.args.begins _ _ part.no_shorter (kept.settled faithful only) (cut.fades here) y (c.sync.ensures.survives (cut.goes_on.faith.1 here) y there) in
    tail_left _ x y stack es stage c.args.begins tail same (front_faded c.args.begins _ _ y part left) (first_behind c.args.begins _ _ y part (kept.short faithful) left)

pub returns-clause-text : goal.returns-clause-text
returns-clause-text g c faithful =
    let kept = c.in_ok-keep_first.ensures in
    let cut = c.in_ok-cut.ensures in
    let here = kept.goes_on.faith.1 faithful in
    let still = cut.goes_on.faith.1 here in
    on_ok_weaker c.sync.result (λ _. c.sync.ensures.text still ∙ cut.ok here ∙ take_part c.args.begins _ _ (kept.part faithful)) (c.sync.ensures.settled still)
