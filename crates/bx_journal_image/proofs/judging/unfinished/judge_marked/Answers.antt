use Rattle.std.proofs.Common.{inr, subst}
use Rattle.std.proofs.lemmas.Result.{IfOk-weaker}
use Rattle.bx_journal_image.specs.Blocks.{AreStruck}
use Rattle.bx_journal_image.specs.Unfinished.{IsStruckAt, touched_at}
use Rattle.bx_journal_image.proofs.judging.unfinished.judge_marked.Goals as goal

pub returns-clause-verdict : goal.returns-clause-verdict
returns-clause-verdict g c = λ hd ht.
    let text = g.T.TextStore.text c.args.journal.now in
    let kept : AreStruck c.args.line.now.length (touched_at text c.args.mark) c.args.line.now.marks c.in-Some.marks =
    subst (IsStruckAt c.args.line.now text c.args.mark) c.in-Some.is (c.in_ok-marks.ensures.struck ht) in
    IfOk-weaker c.judge_image.result _ _ (λ v judged. inr (record { kept = c.in-Some.marks; struck = kept; judged = judged })) (c.judge_image.ensures.verdict hd)
