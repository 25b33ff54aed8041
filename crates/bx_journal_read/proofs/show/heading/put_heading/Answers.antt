use Rattle.std.proofs.Common.{◌++◌}
use Rattle.bx_journal_read.specs.show.ShownSteps.{heading_start, heading_end, length_told, where_at}
use Rattle.bx_journal_read.proofs.StepTexts.{heading_written}
use Rattle.bx_journal_read.proofs.StopLemmas.{counts_joined, counts_three, handed_on, stops_at_first, stops_at_second, stops_at_third, stops_joined}
use Rattle.bx_journal_read.proofs.show.heading.put_heading.Goals as goal

pub returns-clause-heading : goal.returns-clause-heading
returns-clause-heading g c h =
    heading_written (g.W.Write.contents c.args.out.now) (g.W.Write.contents c.put_start.new.out) (g.W.Write.contents c.put_where.new.out) (g.W.Write.contents c.put_end.new.out)
    (g.T.TextStore.text c.args.store.now) c.args.step.steps c.args.step.number c.args.step.mark c.in_ok-start.ensures.start (c.in_ok-places.ensures.put h) c.in_ok-writing.ensures.end

pub returns-clause-counted : goal.returns-clause-counted
returns-clause-counted g c h =
    let mark = c.args.step.mark in
    let told = length_told c.args.step.steps mark.after mark.len in
    let start = heading_start c.args.step.steps.way c.args.step.number mark.saved in
    let places = where_at (g.T.TextStore.text c.args.store.now) mark in
    let end = heading_end mark.after mark.len in
    counts_joined _ _ (start ++ places) end told
    (counts_three _ _ _ _ start places (end ++ told) c.in_ok-start.ensures.counted (c.in_ok-places.ensures.counted h) c.in_ok-writing.ensures.counted)

pub returns-in_err-start-clause-stops : goal.returns-in_err-start-clause-stops
returns-in_err-start-clause-stops g c h =
    let mark = c.args.step.mark in
    let told = length_told c.args.step.steps mark.after mark.len in
    let start = heading_start c.args.step.steps.way c.args.step.number mark.saved in
    let places = where_at (g.T.TextStore.text c.args.store.now) mark in
    let end = heading_end mark.after mark.len in
    handed_on c.from_residual.result _ _ c.from_residual.ensures.1
    (stops_joined _ (start ++ places) end told _ _ _
    (stops_at_first _ start places (end ++ told) _ _ _ c.in_err-start.ensures.stops))

pub returns-in_err-places-clause-stops : goal.returns-in_err-places-clause-stops
returns-in_err-places-clause-stops g c h =
    let mark = c.args.step.mark in
    let told = length_told c.args.step.steps mark.after mark.len in
    let start = heading_start c.args.step.steps.way c.args.step.number mark.saved in
    let places = where_at (g.T.TextStore.text c.args.store.now) mark in
    let end = heading_end mark.after mark.len in
    handed_on c.from_residual-in_err-places.result _ _ c.from_residual-in_err-places.ensures.1
    (stops_joined _ (start ++ places) end told _ _ _
    (stops_at_second _ _ start places (end ++ told) (g.W.Write.contents c.args.out.now)
    (g.W.Write.contents c.put_start.new.out) (g.W.Write.contents c.put_where.new.out) _ c.in_ok-start.ensures.start c.in_ok-start.ensures.counted (c.in_err-places.ensures.stops h)))

pub returns-in_err-writing-clause-stops : goal.returns-in_err-writing-clause-stops
returns-in_err-writing-clause-stops g c h =
    let mark = c.args.step.mark in
    let told = length_told c.args.step.steps mark.after mark.len in
    let start = heading_start c.args.step.steps.way c.args.step.number mark.saved in
    let places = where_at (g.T.TextStore.text c.args.store.now) mark in
    let end = heading_end mark.after mark.len in
    handed_on c.from_residual-in_err-writing.result _ _ c.from_residual-in_err-writing.ensures.1
    (stops_joined _ (start ++ places) end told _ _ _
    (stops_at_third _ _ _ start places (end ++ told) (g.W.Write.contents c.args.out.now)
    (g.W.Write.contents c.put_start.new.out) (g.W.Write.contents c.put_where.new.out) (g.W.Write.contents c.put_end.new.out) _ c.in_ok-start.ensures.start c.in_ok-start.ensures.counted
    (c.in_ok-places.ensures.put h) (c.in_ok-places.ensures.counted h) c.in_err-writing.ensures.stops))
