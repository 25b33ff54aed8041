use Rattle.std.proofs.Common.{◌++◌, subst}
use Rattle.std.specs.Prelude.{codes}
use Rattle.std.specs.Io.KnownBytes.{Appends}
use Rattle.bx_journal_read.specs.show.ShownSteps.{heading_at, length_told, saved_lines_at}
use Rattle.bx_journal_read.specs.show.Stopping.{CountsBytes, StopsPrefix}
use Rattle.bx_journal_read.proofs.StepTexts.{step_written}
use Rattle.bx_journal_read.proofs.StopLemmas.{counts_three, handed_on, stops_at_first, stops_at_second, stops_at_third}
use Rattle.bx_journal.proofs.look.step.put_step.Goals as goal

pub returns-clause-step : goal.returns-clause-step
returns-clause-step g c h hd =
    let first = c.in_ok-put_heading.ensures in
    let lines = subst (λ t. Appends (g.W.Write.contents c.put_heading.new.out) (g.W.Write.contents c.put_saved.new.out) (saved_lines_at c.args.step.steps.compares (g.D.Device.image c.args.image.now) t c.args.step.mark))
    (first.puts.stays.same h) (c.in_ok-put_saved.ensures.put (first.puts.stays.faith.1 h) hd) in
    step_written (g.W.Write.contents c.args.out.now) (g.W.Write.contents c.put_heading.new.out) (g.W.Write.contents c.put_saved.new.out) (g.W.Write.contents c.put.new.out)
    c.args.step.steps (g.D.Device.image c.args.image.now) (g.T.TextStore.text c.args.journal.now) c.args.step.number c.args.step.mark (first.heading h) lines c.in_ok-writing.ensures.put

pub returns-clause-counted : goal.returns-clause-counted
returns-clause-counted g c h hd =
    let s = c.args.step in
    let text = g.T.TextStore.text c.args.journal.now in
    let image = g.D.Device.image c.args.image.now in
    let first = c.in_ok-put_heading.ensures in
    counts_three c.args.writing.now.written c.put_heading.new.writing.written c.put_saved.new.writing.written _ (heading_at text s.steps.way s.number s.mark ++ length_told s.steps s.mark.after s.mark.len) (saved_lines_at s.steps.compares image text s.mark) (codes "\n")
    (first.counted h)
    (subst (λ t. CountsBytes c.put_heading.new.writing.written (saved_lines_at s.steps.compares image t s.mark) c.put_saved.new.writing.written) (first.puts.stays.same h)
    (c.in_ok-put_saved.ensures.counted (first.puts.stays.faith.1 h) hd))
    c.in_ok-writing.ensures.counted

pub returns-in_err-put_heading-clause-stops : goal.returns-in_err-put_heading-clause-stops
returns-in_err-put_heading-clause-stops g c h hd =
    let s = c.args.step in
    let text = g.T.TextStore.text c.args.journal.now in
    let image = g.D.Device.image c.args.image.now in
    let w0 = g.W.Write.contents c.args.out.now in
    let w1 = g.W.Write.contents c.put_heading.new.out in
    handed_on c.from_residual.result _ _ c.from_residual.ensures.1
    (stops_at_first c.args.writing.now.written (heading_at text s.steps.way s.number s.mark ++ length_told s.steps s.mark.after s.mark.len) (saved_lines_at s.steps.compares image text s.mark) (codes "\n") w0 w1 _ (c.in_err-put_heading.ensures.stops h))

pub returns-in_err-put_saved-clause-stops : goal.returns-in_err-put_saved-clause-stops
returns-in_err-put_saved-clause-stops g c h hd =
    let s = c.args.step in
    let text = g.T.TextStore.text c.args.journal.now in
    let image = g.D.Device.image c.args.image.now in
    let w0 = g.W.Write.contents c.args.out.now in
    let w1 = g.W.Write.contents c.put_heading.new.out in
    let w2 = g.W.Write.contents c.put_saved.new.out in
    let first = c.in_ok-put_heading.ensures in
    handed_on c.from_residual-in_err-put_saved.result _ _ c.from_residual-in_err-put_saved.ensures.1
    (stops_at_second c.args.writing.now.written c.put_heading.new.writing.written (heading_at text s.steps.way s.number s.mark ++ length_told s.steps s.mark.after s.mark.len) (saved_lines_at s.steps.compares image text s.mark) (codes "\n") w0 w1 w2 _
    (first.heading h) (first.counted h)
    (subst (λ t. StopsPrefix c.put_heading.new.writing.written (saved_lines_at s.steps.compares image t s.mark) w1 w2 c.in_err-put_saved.field-0.0) (first.puts.stays.same h)
    (c.in_err-put_saved.ensures.stops (first.puts.stays.faith.1 h) hd)))

pub returns-in_err-writing-clause-stops : goal.returns-in_err-writing-clause-stops
returns-in_err-writing-clause-stops g c h hd =
    let s = c.args.step in
    let text = g.T.TextStore.text c.args.journal.now in
    let image = g.D.Device.image c.args.image.now in
    let w0 = g.W.Write.contents c.args.out.now in
    let w1 = g.W.Write.contents c.put_heading.new.out in
    let w2 = g.W.Write.contents c.put_saved.new.out in
    let w3 = g.W.Write.contents c.put.new.out in
    let first = c.in_ok-put_heading.ensures in
    handed_on c.from_residual-in_err-writing.result _ _ c.from_residual-in_err-writing.ensures.1
    (stops_at_third c.args.writing.now.written c.put_heading.new.writing.written c.put_saved.new.writing.written (heading_at text s.steps.way s.number s.mark ++ length_told s.steps s.mark.after s.mark.len) (saved_lines_at s.steps.compares image text s.mark) (codes "\n")
    w0 w1 w2 w3 _ (first.heading h) (first.counted h)
    (subst (λ t. Appends w1 w2 (saved_lines_at s.steps.compares image t s.mark)) (first.puts.stays.same h) (c.in_ok-put_saved.ensures.put (first.puts.stays.faith.1 h) hd))
    (subst (λ t. CountsBytes c.put_heading.new.writing.written (saved_lines_at s.steps.compares image t s.mark) c.put_saved.new.writing.written) (first.puts.stays.same h)
    (c.in_ok-put_saved.ensures.counted (first.puts.stays.faith.1 h) hd))
    c.in_err-writing.ensures.stops)
