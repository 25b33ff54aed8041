use Rattle.std.proofs.Common.{◌≡◌, ◌+◌, ℕ, List, length, drop, subst, arith}
use Rattle.std.specs.Prelude.{IfSome}
use Rattle.bx_journal_format.specs.Shown.{before_zero}
use Rattle.bx_journal_read.specs.scan.Recovery.{IsTornFront}
use Rattle.bx_journal_read.proofs.ZeroLemmas.{no_zero_from, plain_found}
use Rattle.bx_journal_read.proofs.scan.torn.find_torn.Goals as goal

pub returns-clause-found : goal.returns-clause-found
returns-clause-found g c =
    let T = g.T.TextStore in
    let text : List ℕ = T.text c.args.store.now in
    let t = c.in-Some.torn in
    let front = subst (λ o. IfSome o (IsTornFront (T.faithful c.args.store.now) text c.args.len)) c.in-Some.is c.in_ok-found.ensures.found in
    plain_found (T.faithful c.args.store.now) text c.args.len t c.requires.long (omega (arith, c.if-torn-len.false))
    (λ h. no_zero_from text t.begins c.args.len c.in_ok-zero.zero (c.requires.long h) front.within
    (subst (λ u. c.in_ok-zero.zero ≡ t.begins + length (before_zero (drop t.begins u))) (c.in_ok-found.ensures.reads.text h) (c.in_ok-zero.ensures.zero (c.in_ok-found.ensures.reads.goes_on.faith.1 h)))
    (omega (arith, c.if-zero-len.false)))
    front
