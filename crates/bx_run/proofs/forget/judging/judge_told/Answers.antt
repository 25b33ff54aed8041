use Rattle.std.proofs.Common.{inl, inr}
use Rattle.bx_run.proofs.Judged.{found_keeps, not_same, told_keeps, told_may, told_recovers, was_read}
use Rattle.bx_run.proofs.forget.judging.judge_told.Goals as goal

pub returns-in_default-clause-hides : goal.returns-in_default-clause-hides
returns-in_default-clause-hides g c x text redo note holds is judged =
    found_keeps c.args.guard note x text redo
    (elim (rw c.in_default.is at judged) [ inl ends ↦ inl ends | inr nothing ↦ inr (inl nothing) ]) c.judge_found.result.outcome
    (c.judge_found.ensures.hides x text redo holds)

pub returns-in-Same-clause-hides : goal.returns-in-Same-clause-hides
returns-in-Same-clause-hides g c x text redo note holds is judged =
    found_keeps c.args.guard note x text redo
    (told_recovers c.args.guard note x text redo c.args.known is (was_read c.args.known.is_read c.if-not-known.false) c.in-Some.verdict
    (rw c.in-Some.is at judged) c.in-Same.is) c.judge_found-in-Same.result.outcome (c.judge_found-in-Same.ensures.hides x text redo holds)

pub returns-in-Other-clause-may : goal.returns-in-Other-clause-may
returns-in-Other-clause-may g c x text redo note holds is judged =
    told_may c.args.guard note x text redo c.args.known is (was_read c.args.known.is_read c.if-not-known.false) c.in-Some.verdict (rw c.in-Some.is at judged)
    c.drop_or_keep.result.outcome c.is_dropped.result c.is_dropped.ensures c.drop_or_keep.ensures.dropped

pub returns-in-Other-clause-hides : goal.returns-in-Other-clause-hides
returns-in-Other-clause-hides g c x text redo note holds is judged =
    told_keeps c.args.guard note x text redo c.args.known is (was_read c.args.known.is_read c.if-not-known.false) c.in-Some.verdict (rw c.in-Some.is at judged)
    (not_same c.in-Some.verdict c.in-Other.is) c.drop_or_keep.result.outcome c.is_dropped.result c.is_dropped.ensures c.drop_or_keep.ensures.kept
