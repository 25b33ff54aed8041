use Rattle.std.proofs.Common.{List, ℕ, refl}
use Rattle.std.proofs.lemmas.Result.{IfErr-weaker}
use Rattle.std.specs.Prelude.{◌++◌}
use Rattle.bx_journal_read.specs.show.Showing.{PutFault, StopsLog}
use Rattle.bx_journal_read.specs.show.ShownSteps.{AreFrontMarks, torn_text}
use Rattle.bx_journal_read.specs.show.Stopping.{StopsPrefix}
use Rattle.bx_journal_read.proofs.RowTexts.{ok_weaker}
use Rattle.bx_journal_read.proofs.StepsShown.{front_lie}
use Rattle.bx_run_report.specs.report.Unfinished.{StopsFrontRows, rows_at}
use Rattle.bx_run_report.proofs.FrontRows.{find_stops, front_listed, front_refused, front_stopped, put_stops}
use Rattle.bx_run_report.proofs.report.unfinished.list_front.Goals as goal

pub put_listed-requires-clause-lie : goal.put_listed-requires-clause-lie
put_listed-requires-clause-lie g c =
    let f = c.in-Ok.ensures in
    let l = front_lie (g.T.TextStore.faithful c.args.journal.now) (g.T.TextStore.text c.args.journal.now) (g.T.TextStore.text c.front_marks.new.store) c.in-Ok.found.marks.items c.in-Ok.found.marks.items c.in-Ok.found.torn f.marks f.looks.same refl in
    (l.0, (λ h. l.1 (f.looks.faith.0 h)), l.2)

pub returns-clause-lists : goal.returns-clause-lists
returns-clause-lists g c h =
    let f = c.in-Ok.ensures in
    let a = f.marks in
    let stored : List ℕ = g.T.TextStore.text c.args.journal.now in
    let known : AreFrontMarks (Unit {0}) stored c.in-Ok.found.marks.items c.in-Ok.found.torn = record { front = a.front; entries = a.entries; spelled = a.spelled; marks_are = a.marks_are; behind = λ u. a.behind h } in
    ok_weaker c.put_listed.result
    (λ put. front_listed stored (g.T.TextStore.text c.front_marks.new.store) c.args.verbose c.in-Ok.found.marks.items c.in-Ok.found.marks.items
    (g.O.Write.contents c.args.out.now) (g.O.Write.contents c.put_listed.new.out) (f.looks.same h) refl c.in-Ok.found.torn known put)
    (c.put_listed.ensures.put (f.looks.faith.1 h))

pub returns-clause-fault : goal.returns-clause-fault
returns-clause-fault g c =
    IfErr-weaker c.put_listed.result PutFault (StopsLog (g.T.TextStore.faithful c.args.journal.now) (g.T.TextStore.text c.args.journal.now))
    (put_stops (g.T.TextStore.faithful c.args.journal.now) (g.T.TextStore.text c.args.journal.now)) c.put_listed.ensures.kind

pub returns-in-Err-clause-fault : goal.returns-in-Err-clause-fault
returns-in-Err-clause-fault g c = find_stops (g.T.TextStore.faithful c.args.journal.now) (g.T.TextStore.text c.args.journal.now) c.in-Err.fault c.in-Err.ensures.fault

pub returns-in-Err-clause-stops : goal.returns-in-Err-clause-stops
returns-in-Err-clause-stops g c h = front_refused c.args.verbose (g.T.TextStore.text c.args.journal.now) (g.O.Write.contents c.args.out.now) c.in-Err.fault

pub returns-clause-stops : goal.returns-clause-stops
returns-clause-stops g c h =
    let f = c.in-Ok.ensures in
    let a = f.marks in
    let stored : List ℕ = g.T.TextStore.text c.args.journal.now in
    let now : List ℕ = g.T.TextStore.text c.front_marks.new.store in
    let w0 = g.O.Write.contents c.args.out.now in
    let w1 = g.O.Write.contents c.put_listed.new.out in
    let known : AreFrontMarks (Unit {0}) stored c.in-Ok.found.marks.items c.in-Ok.found.torn = record { front = a.front; entries = a.entries; spelled = a.spelled; marks_are = a.marks_are; behind = λ u. a.behind h } in
    IfErr-weaker c.put_listed.result (StopsPrefix 0 (torn_text c.in-Ok.found.torn ++ rows_at c.args.verbose now 1 c.in-Ok.found.marks.items) w0 w1) (StopsFrontRows c.args.verbose stored w0 w1)
    (λ e stop. front_stopped stored now c.args.verbose c.in-Ok.found.marks.items c.in-Ok.found.marks.items w0 w1 (f.looks.same h) refl e c.in-Ok.found.torn known stop)
    (c.put_listed.ensures.stops (f.looks.faith.1 h))
