use Rattle.bx_journal_image.proofs.judging.unfinished.judge_at.Goals as goal

pub returns-in-Ok-clause-verdict : goal.returns-in-Ok-clause-verdict
returns-in-Ok-clause-verdict g c = λ hd ht. rw c.in-Some.is (c.in-Ok.ensures.verdict hd ht)
