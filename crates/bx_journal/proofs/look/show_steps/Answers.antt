use Rattle.std.proofs.Common.{◌≡◌, ◌++◌, List, ℕ, refl}
use Rattle.std.proofs.KnownBytes.{Appends-trans}
use Rattle.std.proofs.lemmas.Result.{IfErr-weaker}
use Rattle.bx_journal_read.specs.show.ShownSteps.{RefusesSteps, StopsSteps, AreFrontMarks, newest_steps, torn_text}
use Rattle.bx_journal_read.specs.show.Stopping.{StopsPrefix}
use Rattle.bx_journal_read.specs.show.Showing.{PutFault}
use Rattle.bx_journal_read.proofs.RowTexts.{ok_weaker}
use Rattle.bx_journal_read.proofs.StepsShown.{front_lie, put_allows, put_stops, steps_shown}
use Rattle.bx_journal_read.proofs.StopLemmas.{stops_first, stops_later}
use Rattle.bx_journal.specs.ShownText.{StopsShownPatch, last_line}
use Rattle.bx_journal.proofs.ShownEnd.{all_shown}
use Rattle.bx_journal.proofs.StoppedLooks.{shown_refused, shown_stopped}
use Rattle.bx_journal.proofs.look.show_steps.Goals as goal

pub put_found-requires-clause-enough : goal.put_found-requires-clause-enough
put_found-requires-clause-enough g c = c.in-Ok.ensures.can.0

pub put_found-requires-clause-lie : goal.put_found-requires-clause-lie
put_found-requires-clause-lie g c =
    let f = c.in-Ok.ensures in
    let l = front_lie (g.T.TextStore.faithful c.args.journal.now) (g.T.TextStore.text c.args.journal.now) (g.T.TextStore.text c.find_steps.new.journal) c.in-Ok.found.marks.items c.in-Ok.found.marks.items c.in-Ok.found.torn f.marks f.looks.same refl in
    (l.0, (λ h. l.1 (f.looks.faith.0 h)), l.2)

pub returns-in-Ok-put_found-clause-shows : goal.returns-in-Ok-put_found-clause-shows
returns-in-Ok-put_found-clause-shows g c h hd =
    let f = c.in-Ok.ensures in
    let a = f.marks in
    let stored : List ℕ = g.T.TextStore.text c.args.journal.now in
    let image = g.D.Device.image c.args.image.now in
    let w0 = g.W.Write.contents c.args.out.now in
    let w1 = g.W.Write.contents c.put_found.new.out in
    let known : AreFrontMarks (Unit {0}) stored c.in-Ok.found.marks.items c.in-Ok.found.torn = record { front = a.front; entries = a.entries; spelled = a.spelled; marks_are = a.marks_are; behind = λ u. a.behind h } in
    let put = c.in-Ok-put_found.ensures.put (f.looks.faith.1 h) hd in
    let steps = steps_shown stored (g.T.TextStore.text c.find_steps.new.journal) image c.args.steps c.in-Ok.found.marks.items c.in-Ok.found.marks.items
    w0 put.0 w1 f.can.0 (f.looks.same h) refl put.2 c.in-Ok.found.torn known f.can.1 put.1 in
    ok_weaker c.put_last.result (λ last. all_shown stored image c.args.steps w0 w1 (g.W.Write.contents c.put_last.new.out) last steps) c.put_last.ensures.put

pub returns-in-Ok-put_found-clause-fault : goal.returns-in-Ok-put_found-clause-fault
returns-in-Ok-put_found-clause-fault g c =
    IfErr-weaker c.put_last.result PutFault (StopsSteps (g.T.TextStore.faithful c.args.journal.now) (g.T.TextStore.text c.args.journal.now) c.args.steps)
    (λ f kind. put_stops (g.T.TextStore.faithful c.args.journal.now) (g.T.TextStore.text c.args.journal.now) c.args.steps f kind) c.put_last.ensures.kind

pub returns-in-Ok-put_found-clause-quiet : goal.returns-in-Ok-put_found-clause-quiet
returns-in-Ok-put_found-clause-quiet g c =
    IfErr-weaker c.put_last.result PutFault (λ f. RefusesSteps f → g.W.Write.contents c.put_last.new.out ≡ g.W.Write.contents c.args.out.now) (λ f kind r. absurd (put_allows f kind r)) c.put_last.ensures.kind

pub returns-in-Ok-put_found-clause-stops : goal.returns-in-Ok-put_found-clause-stops
returns-in-Ok-put_found-clause-stops g c h hd =
    let f = c.in-Ok.ensures in
    let a = f.marks in
    let stored : List ℕ = g.T.TextStore.text c.args.journal.now in
    let now : List ℕ = g.T.TextStore.text c.find_steps.new.journal in
    let image = g.D.Device.image c.args.image.now in
    let w0 = g.W.Write.contents c.args.out.now in
    let w1 = g.W.Write.contents c.put_found.new.out in
    let w2 = g.W.Write.contents c.put_last.new.out in
    let marks = c.in-Ok.found.marks.items in
    let known : AreFrontMarks (Unit {0}) stored marks c.in-Ok.found.torn = record { front = a.front; entries = a.entries; spelled = a.spelled; marks_are = a.marks_are; behind = λ u. a.behind h } in
    let put = c.in-Ok-put_found.ensures.put (f.looks.faith.1 h) hd in
    let steps = newest_steps c.args.steps image now c.args.steps.count marks in
    let first = Appends-trans w0 put.0 w1 (torn_text c.in-Ok.found.torn) steps put.1 put.2 in
    IfErr-weaker c.put_last.result (StopsPrefix c.in-Ok-put_found.written (last_line c.args.steps) w1 w2) (StopsShownPatch stored image c.args.steps w0 w2)
    (λ e stop. shown_stopped stored now image c.args.steps marks marks w0 w2 e f.can.0 (f.looks.same h) refl c.in-Ok.found.torn known
    (stops_later 0 c.in-Ok-put_found.written (torn_text c.in-Ok.found.torn ++ steps) (last_line c.args.steps) w0 w1 w2 e first (c.in-Ok-put_found.ensures.counted (f.looks.faith.1 h) hd) stop))
    c.put_last.ensures.stops

pub returns-clause-fault : goal.returns-clause-fault
returns-clause-fault g c =
    put_stops (g.T.TextStore.faithful c.args.journal.now) (g.T.TextStore.text c.args.journal.now) c.args.steps c.in-Err-put_found.fault c.in-Err-put_found.ensures.kind

pub returns-clause-quiet : goal.returns-clause-quiet
returns-clause-quiet g c = λ r. absurd (put_allows c.in-Err-put_found.fault c.in-Err-put_found.ensures.kind r)

pub returns-in-Err-clause-stops : goal.returns-in-Err-clause-stops
returns-in-Err-clause-stops g c h hd = shown_refused (g.T.TextStore.text c.args.journal.now) (g.D.Device.image c.args.image.now) c.args.steps (g.W.Write.contents c.args.out.now) c.in-Err.fault

pub returns-clause-stops : goal.returns-clause-stops
returns-clause-stops g c h hd =
    let f = c.in-Ok.ensures in
    let a = f.marks in
    let stored : List ℕ = g.T.TextStore.text c.args.journal.now in
    let now : List ℕ = g.T.TextStore.text c.find_steps.new.journal in
    let image = g.D.Device.image c.args.image.now in
    let w0 = g.W.Write.contents c.args.out.now in
    let w1 = g.W.Write.contents c.put_found.new.out in
    let marks = c.in-Ok.found.marks.items in
    let known : AreFrontMarks (Unit {0}) stored marks c.in-Ok.found.torn = record { front = a.front; entries = a.entries; spelled = a.spelled; marks_are = a.marks_are; behind = λ u. a.behind h } in
    shown_stopped stored now image c.args.steps marks marks w0 w1 c.in-Err-put_found.fault f.can.0 (f.looks.same h) refl c.in-Ok.found.torn known
    (stops_first 0 (torn_text c.in-Ok.found.torn ++ newest_steps c.args.steps image now c.args.steps.count marks) (last_line c.args.steps) w0 w1 c.in-Err-put_found.fault
    (c.in-Err-put_found.ensures.stops (f.looks.faith.1 h) hd))
