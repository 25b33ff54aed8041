use Rattle.std.proofs.Common.{length, ap, arith}
use Rattle.bx_journal_protocol.proofs.FirstLemmas.{left_first}
use Rattle.bx_journal_protocol.proofs.protocol.rollback.keep_first.Goals as goal

pub returns-in_err-cut-clause-survives : goal.returns-in_err-cut-clause-survives
returns-in_err-cut-clause-survives g c faithful only =
    let now = c.in_ok-len.ensures in
    let here = now.goes_on.faith.1 faithful in
    left_first c.args.begins _ _ _ _ _ (omega (arith, c.if-begins-gt0.false)) (now.text faithful) (omega (arith, c.if-branch-le1.false, now.len faithful, ap length (now.text faithful)))
    only (now.survives faithful) (c.in_err-cut.ensures.fades here)

pub returns-clause-survives : goal.returns-clause-survives
returns-clause-survives g c faithful only y there =
    let now = c.in_ok-len.ensures in
    let here = now.goes_on.faith.1 faithful in
    let cut = c.in_ok-cut.ensures in
    left_first c.args.begins _ _ _ _ _ (omega (arith, c.if-begins-gt0.false)) (now.text faithful) (omega (arith, c.if-branch-le1.false, now.len faithful, ap length (now.text faithful)))
    only (now.survives faithful) (cut.fades here) y (c.sync.ensures.survives (cut.goes_on.faith.1 here) y there)
