use Rattle.std.proofs.Common.{ap, arith, length, subst}
use Rattle.bx_journal_read.specs.scan.Recovery.{IsFoundIn, IsUnfinishedIn}
use Rattle.bx_journal_image.proofs.NamedLemmas.{marked_within}
use Rattle.bx_journal_image.proofs.judging.unfinished.judge_unfinished.Goals as goal

pub judge_at-requires-clause-within : goal.judge_at-requires-clause-within
judge_at-requires-clause-within g c = λ h.
    let T = g.T.TextStore in
    let looks = c.in-Ok.ensures.looks in
    let before = looks.faith.0 h in
    let text = T.text c.args.journal.now in
    let unfinished : IsUnfinishedIn (T.faithful c.args.journal.now) text c.in-Unfinished.torn = subst (IsFoundIn (T.faithful c.args.journal.now) text) c.in-Unfinished.is c.in-Ok.ensures.found in
    omega (arith, marked_within text c.in-Unfinished.torn c.in-Some.mark (unfinished.torn before) c.in-Some.is, ap length (looks.same before))
