use Rattle.std.proofs.Common.{inl}
use Rattle.bx_run_session.proofs.EndLemmas.{ends_clean, judged_beside}
use Rattle.bx_run_session.proofs.session.looked.judge.Goals as goal

pub returns-then-ends-clause-verdict : goal.returns-then-ends-clause-verdict
returns-then-ends-clause-verdict g c faithful accepted = inl (ends_clean _ (c.in-Ok.ensures.ends faithful.1 c.if-ends.true) accepted)

pub returns-clause-verdict : goal.returns-clause-verdict
returns-clause-verdict g c faithful =
    let reads = c.ends_whole.ensures.reads in
    judged_beside _ _ _ _ (rw (reads.text faithful.1) at (c.judge_unfinished.ensures.verdict faithful.0 (reads.goes_on.faith.1 faithful.1)))
