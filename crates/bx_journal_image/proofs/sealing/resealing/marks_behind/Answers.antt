use Rattle.std.proofs.Common.{ap, arith, inr, length, subst}
use Rattle.bx_journal_read.specs.scan.Recovery.{IsFoundIn, IsUnfinishedIn}
use Rattle.bx_journal_image.specs.Seal.{AreKeptAt}
use Rattle.bx_journal_image.proofs.NamedLemmas.{marked_within}
use Rattle.bx_journal_image.proofs.sealing.resealing.marks_behind.Goals as goal

pub keep_marks-requires-clause-within : goal.keep_marks-requires-clause-within
keep_marks-requires-clause-within g c = λ h.
    let T = g.T.TextStore in
    let looks = c.in-Ok.ensures.looks in
    let before = looks.faith.0 h in
    let text = T.text c.args.journal.now in
    let unfinished : IsUnfinishedIn (T.faithful c.args.journal.now) text c.in-Unfinished.torn = subst (IsFoundIn (T.faithful c.args.journal.now) text) c.in-Unfinished.is c.in-Ok.ensures.found in
    omega (arith, marked_within text c.in-Unfinished.torn c.in-Some.mark (unfinished.torn before) c.in-Some.is, ap length (looks.same before))

pub returns-in-Ok-keep_marks-clause-marks : goal.returns-in-Ok-keep_marks-clause-marks
returns-in-Ok-keep_marks-clause-marks g c = λ h.
    let T = g.T.TextStore in
    let looks = c.in-Ok.ensures.looks in
    let text = T.text c.args.journal.now in
    let unfinished : IsUnfinishedIn (T.faithful c.args.journal.now) text c.in-Unfinished.torn = subst (IsFoundIn (T.faithful c.args.journal.now) text) c.in-Unfinished.is c.in-Ok.ensures.found in
    inr (record {
      torn = c.in-Unfinished.torn;
      mark = c.in-Some.mark;
      unfinished = unfinished.torn h;
      marked = c.in-Some.is;
      kept = subst (λ t. AreKeptAt c.args.line.now t c.in-Some.mark c.in-Ok-keep_marks.marks) (looks.same h) (c.in-Ok-keep_marks.ensures.marks (looks.faith.1 h));
    })
