use Rattle.std.proofs.Common.{◌∙◌, List, ℕ, length, ap, subst, sym, arith}
use Rattle.std.specs.Prelude.{All}
use Rattle.bx_journal_read.specs.show.Showing.{AreAllMarks, LiesWithin}
use Rattle.bx_journal_read.proofs.RowTexts.{all_lie, ok_weaker, ranges_written}
use Rattle.bx_journal.proofs.StoppedLooks.{rows_refused, rows_stopped}
use Rattle.std.proofs.lemmas.Result.{IfErr-weaker}
use Rattle.bx_journal_read.specs.show.Showing.{mark_rows, StopsRows}
use Rattle.bx_journal_read.specs.show.Stopping.{StopsPrefix}
use Rattle.bx_journal.proofs.look.log_ranges.Goals as goal

pub put_rows-requires-clause-lie : goal.put_rows-requires-clause-lie
put_rows-requires-clause-lie g c =
    let looks = c.in-Ok.ensures.looks in
    let a = c.in-Ok.ensures.marks in (
      length a.text,
      (λ h. omega (arith, ap length (looks.same (looks.faith.0 h) ∙ a.is (looks.faith.0 h)))),
      subst (All (LiesWithin (length a.text))) (sym c.as_slice.ensures.value) (all_lie a.text a.entries c.in-Ok.marks.items a.spelled a.marks_are),
    )

pub returns-clause-rows : goal.returns-clause-rows
returns-clause-rows g c h =
    let looks = c.in-Ok.ensures.looks in
    let a = c.in-Ok.ensures.marks in
    let w0 = g.W.Write.contents c.args.out.now in
    let w1 = g.W.Write.contents c.put_rows.new.out in
    let stored : List ℕ = g.T.TextStore.text c.args.journal.now in
    let now : List ℕ = g.T.TextStore.text c.all_marks.new.store in
    let known : AreAllMarks (Unit {0}) stored c.in-Ok.marks.items = record { text = a.text; is = λ u. a.is h; entries = a.entries; spelled = a.spelled; marks_are = a.marks_are } in
    ok_weaker c.put_rows.result
    (ranges_written stored now c.as_slice.result.now c.in-Ok.marks.items w0 w1 known (looks.same h) c.as_slice.ensures.value) (c.put_rows.ensures.rows (looks.faith.1 h))

pub returns-in-Err-clause-stops : goal.returns-in-Err-clause-stops
returns-in-Err-clause-stops g c h = rows_refused (g.T.TextStore.text c.args.journal.now) (g.W.Write.contents c.args.out.now) c.in-Err.fault

pub returns-clause-stops : goal.returns-clause-stops
returns-clause-stops g c h =
    let looks = c.in-Ok.ensures.looks in
    let a = c.in-Ok.ensures.marks in
    let w0 = g.W.Write.contents c.args.out.now in
    let w1 = g.W.Write.contents c.put_rows.new.out in
    let stored : List ℕ = g.T.TextStore.text c.args.journal.now in
    let now : List ℕ = g.T.TextStore.text c.all_marks.new.store in
    let known : AreAllMarks (Unit {0}) stored c.in-Ok.marks.items = record { text = a.text; is = λ u. a.is h; entries = a.entries; spelled = a.spelled; marks_are = a.marks_are } in
    IfErr-weaker c.put_rows.result (StopsPrefix 0 (mark_rows now 1 c.as_slice.result.now) w0 w1) (StopsRows stored w0 w1)
    (λ f stop. rows_stopped stored now c.as_slice.result.now c.in-Ok.marks.items w0 w1 f known (looks.same h) c.as_slice.ensures.value stop) (c.put_rows.ensures.stops (looks.faith.1 h))
