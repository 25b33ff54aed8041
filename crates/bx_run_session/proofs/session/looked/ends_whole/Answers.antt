use Rattle.std.proofs.Common.{◌≡◌, ◌≤◌, inr, arith}
use Rattle.bx_run_session.proofs.EndLemmas.{ends_behind}
use Rattle.bx_run_session.proofs.session.looked.ends_whole.Goals as goal

pub returns-clause-ends : goal.returns-clause-ends
returns-clause-ends g c faithful is =
    let first = c.in_ok-len.ensures in
    let bytes = c.in_ok-read_at.ensures.bytes (first.goes_on.faith.1 faithful) in
    let few = c.if-len.false in
    let most : 33 ≤ c.in_ok-len.len = omega (arith, few) in
    inr (ends_behind _ _ c.in_ok-len.len (first.len faithful) (rw (first.text faithful) at bytes) most (c.is_end.ensures is))
