use Rattle.std.proofs.Common.{◌≡◌, ℕ, List, ◌∷◌, length, drop, ap, sym, ◌∙◌, arith}
use Rattle.bx_journal_protocol.specs.write.First.{AllKeptOrShort}
use Rattle.bx_journal_protocol.proofs.PageLemmas.{at_err}
use Rattle.bx_journal_protocol.proofs.FirstLemmas.{fades_first, first_of, part_first, short_first}
use Rattle.bx_journal_protocol.proofs.write.first.put_first.Goals as goal
use Rattle.bx_journal_protocol.proofs.write.first.put_first.Goals.{After-append}

-- the first byte of the page
is : (g : _) (c : After-append g) → c.index.result.now ∷ drop 1 c.args.page.now.items ≡ c.args.page.now.items
is g c = first_of c.args.page.now.items c.index.result.now (omega (arith, c.requires.some)) c.index.ensures

pub returns-in_err-append-clause-fault : goal.returns-in_err-append-clause-fault
returns-in_err-append-clause-fault g c faithful =
    let now = c.in_ok-len.ensures in
    at_err _ (part_first _ _ _ _ _ (now.text faithful) (is g (goal.at.returns-in_err-append-clause-fault g c).After-append) (c.in_err-append.ensures.failed (now.goes_on.faith.1 faithful)))

pub returns-in_err-append-clause-fades : goal.returns-in_err-append-clause-fades
returns-in_err-append-clause-fades g c faithful =
    let now = c.in_ok-len.ensures in
    fades_first _ _ _ _ _ _ _ (now.text faithful) (is g (goal.at.returns-in_err-append-clause-fades g c).After-append) (now.survives faithful) (c.in_err-append.ensures.fades (now.goes_on.faith.1 faithful))

pub returns-in_err-append-clause-short : goal.returns-in_err-append-clause-short
returns-in_err-append-clause-short g c faithful only =
    let now = c.in_ok-len.ensures in
    at_err _ (short_first _ _ _ _ _ _ (now.text faithful) (omega (arith, now.len faithful, c.if-branch-gt0.false)) only (now.survives faithful) (c.in_err-append.ensures.fades (now.goes_on.faith.1 faithful)))

pub returns-in_err-sync-clause-fault : goal.returns-in_err-sync-clause-fault
returns-in_err-sync-clause-fault g c faithful =
    let now = c.in_ok-len.ensures in
    let here = now.goes_on.faith.1 faithful in
    let put = c.in_ok-append.ensures in
    at_err _ (part_first _ _ _ _ _ (now.text faithful) (is g (goal.at.returns-in_err-sync-clause-fault g c).After-append) (1, c.in_err-sync.ensures.text (put.goes_on.faith.1 here) ∙ put.ok here))

pub returns-in_err-sync-clause-fades : goal.returns-in_err-sync-clause-fades
returns-in_err-sync-clause-fades g c faithful =
    let now = c.in_ok-len.ensures in
    let here = now.goes_on.faith.1 faithful in
    let put = c.in_ok-append.ensures in
    let before = fades_first _ _ _ _ _ _ _ (now.text faithful) (is g (goal.at.returns-in_err-sync-clause-fades g c).After-append) (now.survives faithful) (put.fades here) in
    record { fade = λ n rest all y there. before.fade n rest all y (c.in_err-sync.ensures.survives (put.goes_on.faith.1 here) y there) }

pub returns-in_err-sync-clause-short : goal.returns-in_err-sync-clause-short
returns-in_err-sync-clause-short g c faithful only =
    let now = c.in_ok-len.ensures in
    let here = now.goes_on.faith.1 faithful in
    let put = c.in_ok-append.ensures in
    let short = short_first _ _ _ _ _ _ (now.text faithful) (omega (arith, now.len faithful, c.if-branch-gt0.false)) only (now.survives faithful) (put.fades here) in
    let all : AllKeptOrShort (g.T.TextStore.text c.args.store.now) (g.T.TextStore.survives c.sync.new.self) = λ y there. short y (c.in_err-sync.ensures.survives (put.goes_on.faith.1 here) y there) in
    at_err _ all

pub returns-clause-fades : goal.returns-clause-fades
returns-clause-fades g c faithful =
    let now = c.in_ok-len.ensures in
    let here = now.goes_on.faith.1 faithful in
    let put = c.in_ok-append.ensures in
    let before = fades_first _ _ _ _ _ _ _ (now.text faithful) (is g (goal.at.returns-clause-fades g c).After-append) (now.survives faithful) (put.fades here) in
    record { fade = λ n rest all y there. before.fade n rest all y (c.in_ok-sync.ensures.survives (put.goes_on.faith.1 here) y there) }
