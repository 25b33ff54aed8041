use Rattle.std.proofs.lemmas.Result.{IfErr-weaker, IfOk-weaker}
use Rattle.std.specs.Prelude.{codes}
use Rattle.bx_journal_read.specs.show.Showing.{mark_row, places_at, row_front}
use Rattle.bx_journal_read.specs.show.Stopping.{CountsBytes, StopsPrefix}
use Rattle.bx_journal_read.proofs.RowTexts.{ok_weaker, row_written}
use Rattle.bx_journal_read.proofs.StopLemmas.{counts_three, handed_on, stops_at_first, stops_at_second, stops_at_third}
use Rattle.bx_journal.proofs.look.entries.put_row.Goals as goal

pub returns-clause-row : goal.returns-clause-row
returns-clause-row g c h =
    ok_weaker c.put.result
    (row_written (g.W.Write.contents c.args.out.now) (g.W.Write.contents c.put_front.new.out) (g.W.Write.contents c.put_places.new.out) (g.W.Write.contents c.put.new.out)
    (g.T.TextStore.text c.args.journal.now) c.args.change.number c.args.change.mark c.in_ok-front.ensures.front (c.in_ok-places.ensures.put h))
    c.put.ensures.put

pub returns-clause-counted : goal.returns-clause-counted
returns-clause-counted g c h =
    let text = g.T.TextStore.text c.args.journal.now in
    IfOk-weaker c.put.result (CountsBytes c.in_ok-places.places (codes "\n")) (CountsBytes c.args.written (mark_row text c.args.change.number c.args.change.mark))
    (λ after counted. counts_three c.args.written c.in_ok-front.front c.in_ok-places.places after (row_front c.args.change.number c.args.change.mark) (places_at text c.args.change.mark) (codes "\n")
    c.in_ok-front.ensures.counted (c.in_ok-places.ensures.counted h) counted)
    c.put.ensures.counted

pub returns-clause-stops : goal.returns-clause-stops
returns-clause-stops g c h =
    let text = g.T.TextStore.text c.args.journal.now in
    let w0 = g.W.Write.contents c.args.out.now in
    let w1 = g.W.Write.contents c.put_front.new.out in
    let w2 = g.W.Write.contents c.put_places.new.out in
    let w3 = g.W.Write.contents c.put.new.out in
    IfErr-weaker c.put.result (StopsPrefix c.in_ok-places.places (codes "\n") w2 w3) (StopsPrefix c.args.written (mark_row text c.args.change.number c.args.change.mark) w0 w3)
    (λ f stop. stops_at_third c.args.written c.in_ok-front.front c.in_ok-places.places (row_front c.args.change.number c.args.change.mark) (places_at text c.args.change.mark) (codes "\n")
    w0 w1 w2 w3 f c.in_ok-front.ensures.front c.in_ok-front.ensures.counted (c.in_ok-places.ensures.put h) (c.in_ok-places.ensures.counted h) stop)
    c.put.ensures.stops

pub returns-in_err-front-clause-stops : goal.returns-in_err-front-clause-stops
returns-in_err-front-clause-stops g c h =
    handed_on c.from_residual.result _ _ c.from_residual.ensures.1
    (stops_at_first _ (row_front c.args.change.number c.args.change.mark) (places_at (g.T.TextStore.text c.args.journal.now) c.args.change.mark) (codes "\n") _ _ _ c.in_err-front.ensures.stops)

pub returns-in_err-places-clause-stops : goal.returns-in_err-places-clause-stops
returns-in_err-places-clause-stops g c h =
    handed_on c.from_residual-in_err-places.result _ _ c.from_residual-in_err-places.ensures.1
    (stops_at_second _ _ (row_front c.args.change.number c.args.change.mark) (places_at (g.T.TextStore.text c.args.journal.now) c.args.change.mark) (codes "\n")
    (g.W.Write.contents c.args.out.now) (g.W.Write.contents c.put_front.new.out) (g.W.Write.contents c.put_places.new.out) _ c.in_ok-front.ensures.front c.in_ok-front.ensures.counted (c.in_err-places.ensures.stops h))
