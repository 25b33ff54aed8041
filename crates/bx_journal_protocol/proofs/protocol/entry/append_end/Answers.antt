use Rattle.std.proofs.Common.{ℕ, List, ◌++◌, length, sym, ◌∙◌, ap, arith, take_all}
use Rattle.std.proofs.lemmas.Result.{on_ok_weaker}
use Rattle.bx_journal_protocol.proofs.PageLemmas.{at_err}
use Rattle.bx_journal_protocol.proofs.ChangeSteps.{end_ok}
use Rattle.bx_journal_protocol.proofs.EndLineLemmas.{end_is_sharp}
use Rattle.bx_journal_protocol.proofs.StepSurvivors.{left_behind, end_survives}
use Rattle.bx_journal_protocol.proofs.protocol.entry.append_end.Goals as goal

pub returns-in_err-append-clause-fault : goal.returns-in_err-append-clause-fault
returns-in_err-append-clause-fault g c faithful x stack s ends =
    at_err _ (end_is_sharp _ _ x stack s _ ends (c.in_err-append.ensures.failed faithful))

pub returns-in_err-append-clause-survives : goal.returns-in_err-append-clause-survives
returns-in_err-append-clause-survives g c faithful only x stack s ends y there =
    end_survives _ _ x y stack s ends (left_behind _ _ _ _ only (c.in_err-append.ensures.fades faithful) y there)

pub returns-clause-ok : goal.returns-clause-ok
returns-clause-ok g c faithful x stack s ends =
    let put = c.in_ok-append.ensures in
    let still = put.goes_on.faith.1 faithful in
    on_ok_weaker c.sync.result (λ _. end_ok _ _ x stack s _ ends (c.sync.ensures.text still ∙ put.ok faithful)) (c.sync.ensures.settled still)

pub returns-clause-fault : goal.returns-clause-fault
returns-clause-fault g c faithful x stack s ends =
    let put = c.in_ok-append.ensures in
    let still = put.goes_on.faith.1 faithful in
    let line : List ℕ = c.args.end.now in
    at_err _ (end_is_sharp _ _ x stack s line ends (length line, c.sync.ensures.text still ∙ put.ok faithful ∙ ap (λ t. g.T.TextStore.text c.args.journal.now ++ t) (sym (take_all (length line) line (omega arith)))))

pub returns-clause-survives : goal.returns-clause-survives
returns-clause-survives g c faithful only x stack s ends y there =
    let put = c.in_ok-append.ensures in
    let still = put.goes_on.faith.1 faithful in
    end_survives _ _ x y stack s ends (left_behind _ _ _ _ only (put.fades faithful) y (c.sync.ensures.survives still y there))
