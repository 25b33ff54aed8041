use Rattle.std.proofs.Common.{◌≡◌, length, sym, subst, arith}
use Rattle.std.specs.Prelude.{IfSome}
use Rattle.std.proofs.lemmas.Result.{IfOk-weaker}
use Rattle.bx_journal_format.specs.Text.{split}
use Rattle.bx_journal_read.specs.scan.Judging.{IsRedoCounted}
use Rattle.bx_journal.specs.private.RedoFound.{IsRedoCountedIn, IsRedoFound, IsRedoIn}
use Rattle.bx_journal.proofs.recovery.finished.find_redo.Goals as goal

pub returns-in-Some-clause-found : goal.returns-in-Some-clause-found
returns-in-Some-clause-found g c =
    let there = subst (λ o. IfSome o (IsRedoCountedIn (g.T.TextStore.faithful c.args.redo.now) (g.T.TextStore.text c.args.redo.now) c.args.changes)) c.in-Some.is c.in-Ok.ensures.counted in
    let counted = c.in-Some.text in
    record {
      found = λ h. subst (λ t. IsRedoCounted t c.args.changes counted.counted.count counted.counted.told × (counted.lines ≡ length (split t).lines)) (sym (there.is h)) (there.counted, there.many);
      few = omega (arith, there.counted.fit.few, there.counted.counted);
    }

pub returns-clause-found : goal.returns-clause-found
returns-clause-found g c =
    let looks = c.count_redo.ensures.looks in
    IfOk-weaker c.read_redo.result (IsRedoIn (g.T.TextStore.faithful c.count_redo.new.redo) (g.T.TextStore.text c.count_redo.new.redo) c.args.changes) (IsRedoIn (g.T.TextStore.faithful c.args.redo.now) (g.T.TextStore.text c.args.redo.now) c.args.changes)
    (λ found r. record { found = λ h. subst (λ t. IsRedoFound t c.args.changes found) (looks.same h) (r.found (looks.faith.1 h)); few = r.few }) c.read_redo.ensures.found
