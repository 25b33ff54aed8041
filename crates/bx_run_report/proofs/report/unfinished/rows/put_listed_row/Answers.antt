use Rattle.std.proofs.KnownBytes.{Appends-trans}
use Rattle.std.proofs.lemmas.Result.{IfErr-weaker}
use Rattle.std.specs.Prelude.{◌++◌, codes}
use Rattle.bx_journal_read.specs.show.Stopping.{StopsPrefix}
use Rattle.bx_journal_read.proofs.RowTexts.{ok_weaker}
use Rattle.bx_journal_read.proofs.StopLemmas.{handed_on, stops_at_first, stops_at_second, stops_at_third}
use Rattle.bx_run_report.specs.report.Unfinished.{front_at, ranges_if, row_at}
use Rattle.bx_run_report.proofs.report.unfinished.rows.put_listed_row.Goals as goal

pub returns-clause-row : goal.returns-clause-row
returns-clause-row g c h =
    let front = front_at c.args.change.verbose c.args.change.number c.args.change.mark in
    let ranges = ranges_if c.args.change.verbose (g.T.TextStore.text c.args.journal.now) c.args.change.mark in
    let w0 = g.O.Write.contents c.args.out.now in
    let w1 = g.O.Write.contents c.put_row_start.new.out in
    let w2 = g.O.Write.contents c.put_ranges_if.new.out in
    let w3 = g.O.Write.contents c.put.new.out in
    ok_weaker c.put.result
    (λ put. Appends-trans w0 w2 w3 (front ++ ranges) (codes "\n") (Appends-trans w0 w1 w2 front ranges c.in_ok-front.ensures.front (c.in_ok-places.ensures.put h)) put)
    c.put.ensures.put

pub returns-clause-stops : goal.returns-clause-stops
returns-clause-stops g c h =
    let text = g.T.TextStore.text c.args.journal.now in
    let front = front_at c.args.change.verbose c.args.change.number c.args.change.mark in
    let ranges = ranges_if c.args.change.verbose text c.args.change.mark in
    let w0 = g.O.Write.contents c.args.out.now in
    let w1 = g.O.Write.contents c.put_row_start.new.out in
    let w2 = g.O.Write.contents c.put_ranges_if.new.out in
    let w3 = g.O.Write.contents c.put.new.out in
    IfErr-weaker c.put.result (StopsPrefix c.in_ok-places.places (codes "\n") w2 w3)
    (StopsPrefix c.args.written (row_at c.args.change.verbose text c.args.change.number c.args.change.mark) w0 w3)
    (λ f stop. stops_at_third c.args.written c.in_ok-front.front c.in_ok-places.places front ranges (codes "\n") w0 w1 w2 w3 f c.in_ok-front.ensures.front
    c.in_ok-front.ensures.counted (c.in_ok-places.ensures.put h) (c.in_ok-places.ensures.counted h) stop)
    c.put.ensures.stops

pub returns-in_err-front-clause-stops : goal.returns-in_err-front-clause-stops
returns-in_err-front-clause-stops g c h =
    handed_on c.from_residual.result _ _ c.from_residual.ensures.1
    (stops_at_first _ (front_at c.args.change.verbose c.args.change.number c.args.change.mark)
    (ranges_if c.args.change.verbose (g.T.TextStore.text c.args.journal.now) c.args.change.mark) (codes "\n") _ _ _ c.in_err-front.ensures.stops)

pub returns-in_err-places-clause-stops : goal.returns-in_err-places-clause-stops
returns-in_err-places-clause-stops g c h =
    handed_on c.from_residual-in_err-places.result _ _ c.from_residual-in_err-places.ensures.1
    (stops_at_second _ _ (front_at c.args.change.verbose c.args.change.number c.args.change.mark)
    (ranges_if c.args.change.verbose (g.T.TextStore.text c.args.journal.now) c.args.change.mark) (codes "\n") (g.O.Write.contents c.args.out.now)
    (g.O.Write.contents c.put_row_start.new.out) (g.O.Write.contents c.put_ranges_if.new.out) _ c.in_ok-front.ensures.front c.in_ok-front.ensures.counted
    (c.in_err-places.ensures.stops h))
