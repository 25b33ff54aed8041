use Rattle.std.proofs.Common.{ℕ, List, ◌++◌, length, take_all, ap, sym, subst, ◌∙◌, arith}
use Rattle.std.proofs.lemmas.Result.{on_ok_weaker}
use Rattle.bx_journal_format.specs.Entry.{head_text}
use Rattle.bx_journal_format.specs.read.Faded.{HasFirst}
use Rattle.bx_journal_protocol.specs.write.Ranges.{kept_over}
use Rattle.bx_journal_protocol.proofs.PageLemmas.{part_is, at_err}
use Rattle.bx_journal_protocol.proofs.FadeLemmas.{fades_is}
use Rattle.bx_journal_protocol.proofs.PrefixLemmas.{prefix_is}
use Rattle.bx_journal_protocol.proofs.ChangeSteps.{head_ok, head_fault}
use Rattle.bx_journal_protocol.proofs.StepSurvivors.{left_behind, head_survives}
use Rattle.bx_journal_protocol.proofs.protocol.entry.append_head_of.Goals as goal

pub returns-in_err-put_head_from-clause-fault : goal.returns-in_err-put_head_from-clause-fault
returns-in_err-put_head_from-clause-fault g c dh th x stack s starts =
    at_err _ (head_fault _ _ x stack s _ starts (part_is _ _ _ _ (c.requires.begun dh).text (c.in_err-put_head_from.ensures.fault dh th)))

pub returns-in_err-put_head_from-clause-survives : goal.returns-in_err-put_head_from-clause-survives
returns-in_err-put_head_from-clause-survives g c dh th only x stack s starts y there =
    let text = g.T.TextStore.text c.args.journal.now in
    let is = (c.requires.begun dh).text in
    head_survives _ _ x y stack s starts (left_behind _ _ _ _ only (fades_is _ _ _ _ _ is (c.in_err-put_head_from.ensures.fades dh th)) y there)
    (subst (λ h. HasFirst (text ++ h) y) is (c.in_err-put_head_from.ensures.first dh th only y there))

pub returns-clause-ok : goal.returns-clause-ok
returns-clause-ok g c dh th x stack s starts =
    let put = c.in_ok-put_head_from.ensures in
    let still = put.goes_on.journal_faith.1 th in
    on_ok_weaker c.sync.result
    (λ _. head_ok _ _ x stack s _ starts (c.sync.ensures.text still ∙ put.ok dh th ∙ ap (λ h. g.T.TextStore.text c.args.journal.now ++ h) (c.requires.begun dh).text))
    (c.sync.ensures.settled still)

pub returns-clause-fault : goal.returns-clause-fault
returns-clause-fault g c dh th x stack s starts =
    let put = c.in_ok-put_head_from.ensures in
    let still = put.goes_on.journal_faith.1 th in
    let head : List ℕ = head_text c.args.head.now.number (kept_over (g.D.Device.image c.args.image.now) c.args.ranges.now) in
    let is = c.sync.ensures.text still ∙ put.ok dh th ∙ ap (λ h. g.T.TextStore.text c.args.journal.now ++ h) (c.requires.begun dh).text in
    at_err _ (head_fault _ _ x stack s head starts (length head, is ∙ ap (λ t. g.T.TextStore.text c.args.journal.now ++ t) (sym (take_all (length head) head (omega arith)))))

pub returns-clause-settled : goal.returns-clause-settled
returns-clause-settled g c th =
    let still = c.in_ok-put_head_from.ensures.goes_on.journal_faith.1 th in
    rw (c.sync.ensures.text still) (c.sync.ensures.settled still)

pub returns-clause-text : goal.returns-clause-text
returns-clause-text g c dh th =
    let put = c.in_ok-put_head_from.ensures in
    let still = put.goes_on.journal_faith.1 th in
    on_ok_weaker c.sync.result
    (λ _. c.sync.ensures.text still ∙ put.ok dh th ∙ ap (λ h. g.T.TextStore.text c.args.journal.now ++ h) (c.requires.begun dh).text)
    (c.sync.ensures.settled still)

pub returns-clause-long : goal.returns-clause-long
returns-clause-long g c th =
    let put = c.in_ok-put_head_from.ensures in
    let still = put.goes_on.journal_faith.1 th in
    on_ok_weaker c.sync.result (λ _. ap length (c.sync.ensures.text still) ∙ put.long th) (c.sync.ensures.settled still)

pub returns-clause-front : goal.returns-clause-front
returns-clause-front g c th =
    let put = c.in_ok-put_head_from.ensures in
    let still = put.goes_on.journal_faith.1 th in
    on_ok_weaker c.sync.result (λ _. prefix_is _ (put.front th) (c.sync.ensures.text still)) (c.sync.ensures.settled still)

pub returns-clause-survives : goal.returns-clause-survives
returns-clause-survives g c dh th only x stack s starts y there =
    let put = c.in_ok-put_head_from.ensures in
    let still = put.goes_on.journal_faith.1 th in
    let before = c.sync.ensures.survives still y there in
    let text = g.T.TextStore.text c.args.journal.now in
    let is = (c.requires.begun dh).text in
    head_survives _ _ x y stack s starts (left_behind _ _ _ _ only (fades_is _ _ _ _ _ is (put.fades dh th)) y before) (subst (λ h. HasFirst (text ++ h) y) is (put.first dh th only y before))
