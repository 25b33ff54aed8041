use Rattle.std.proofs.Common.{◌∙◌, ℕ, List, false, length, ap, subst, arith}
use Rattle.std.specs.Prelude.{IfSome}
use Rattle.bx_journal_read.specs.scan.Recovery.{IsTornFront, IsUnfinishedIn}
use Rattle.bx_journal_read.specs.scan.Windows.{IsWalkedTo}
use Rattle.bx_journal_read.proofs.TextWalks.{read_walked}
use Rattle.bx_journal_read.proofs.ZeroLemmas.{faded_found, found_all}
use Rattle.bx_journal_read.proofs.scan.torn.find_faded.Goals as goal

pub walk_windows-requires-clause-within : goal.walk_windows-requires-clause-within
walk_windows-requires-clause-within g c h =
    let h0 = c.in_ok-shown.ensures.reads.goes_on.faith.0 h in
    omega (arith, c.in_ok-shown.ensures.within, c.requires.long h0, ap length (c.in_ok-shown.ensures.reads.text h0))

pub find_end-requires-clause-within : goal.find_end-requires-clause-within
find_end-requires-clause-within g c h =
    let h1 = c.in_ok-walked.ensures.reads.goes_on.faith.0 h in
    let h0 = c.in_ok-shown.ensures.reads.goes_on.faith.0 h1 in
    omega (arith, c.in_ok-shown.ensures.within, c.requires.long h0, ap length (c.in_ok-walked.ensures.reads.text h1 ∙ c.in_ok-shown.ensures.reads.text h0))

pub find_end-requires-clause-walked : goal.find_end-requires-clause-walked
find_end-requires-clause-walked g c =
    let T = g.T.TextStore in
    let now = c.in_ok-walked.ensures in
    let walked = subst (λ o. IfSome o (IsWalkedTo (T.faithful c.shown_in.new.store) (T.text c.shown_in.new.store) false c.in_ok-shown.shown)) c.in-Some.is now.walked in
    read_walked T now.reads c.in_ok-shown.shown c.in-Some.walk walked

pub returns-clause-found : goal.returns-clause-found
returns-clause-found g c =
    let T = g.T.TextStore in
    let H = T.faithful c.args.store.now in
    let text : List ℕ = T.text c.args.store.now in
    let now = c.in_ok-walked.ensures in
    let first = c.in_ok-shown.ensures in
    found_all (IsTornFront (T.faithful c.walk_windows.new.store) (T.text c.walk_windows.new.store) c.in_ok-shown.shown) (IsUnfinishedIn H text) c.find_end.result
    (λ t front. faded_found H (T.faithful c.walk_windows.new.store) text (T.text c.walk_windows.new.store) c.args.len c.in_ok-shown.shown t
    (λ h. now.reads.goes_on.faith.1 (first.reads.goes_on.faith.1 h)) (λ h. now.reads.text (first.reads.goes_on.faith.1 h) ∙ first.reads.text h) c.requires.long (omega (arith, c.if-shown-len.false)) first.shown front)
    c.find_end.ensures.found
