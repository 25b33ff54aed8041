use Rattle.std.proofs.Common.{◌+◌, ◌≤◌, ℕ, List, subst, arith}
use Rattle.std.proofs.lemmas.Result.{IfErr-weaker, IfOk-weaker}
use Rattle.bx_journal.specs.private.RedoFound.{IsFewFound, IsOfText, IsRedoFound}
use Rattle.bx_journal_read.specs.scan.Judging.{IsRedoCounted, RedoTextFault}
use Rattle.bx_journal.proofs.JudgeLemmas.{of_text}
use Rattle.bx_journal.proofs.recovery.redo.count_found.Goals as goal

pub returns-in-Counted-clause-few : goal.returns-in-Counted-clause-few
returns-in-Counted-clause-few g c few = subst (IsFewFound c.args.changes) c.in-Counted.is few

pub returns-in-Unfit-clause-refused : goal.returns-in-Unfit-clause-refused
returns-in-Unfit-clause-refused g c text found = subst (IsRedoFound text c.args.changes) c.in-Unfit.is found

pub returns-in-Text-clause-few : goal.returns-in-Text-clause-few
returns-in-Text-clause-few g c few =
    let bytes : List ℕ = c.deref.result.now in
    let changes : ℕ = c.args.changes in
    IfOk-weaker c.redo_counted.result (λ c. IsRedoCounted bytes changes c.counted.count c.counted.told) (λ c. changes + c.counted.count ≤ 65535)
    (λ c h. omega (arith, h.fit.few, h.counted)) c.redo_counted.ensures.ok

pub returns-in-Text-clause-kind : goal.returns-in-Text-clause-kind
returns-in-Text-clause-kind g c =
    let bytes : List ℕ = c.deref.result.now in
    IfErr-weaker c.redo_counted.result (RedoTextFault bytes c.args.changes) IsOfText (of_text bytes c.args.changes) c.redo_counted.ensures.refused
