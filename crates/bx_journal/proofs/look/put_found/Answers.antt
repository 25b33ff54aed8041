use Rattle.std.proofs.Common.{◌≤◌, List, length, subst, sym}
use Rattle.std.specs.Prelude.{All}
use Rattle.bx_journal_read.specs.show.Showing.{LiesWithin}
use Rattle.bx_journal_read.specs.show.ShownSteps.{AreStepsPut}
use Rattle.bx_journal_model.specs.declared.fault.SessionFault.TheVariants.{NoMemory}
use Rattle.bx_journal_read.specs.declared.show.fault.ShowFault.TheVariants.{Text}
use Rattle.bx_journal_read.specs.show.ShownSteps.{newest_steps, torn_text}
use Rattle.bx_journal_read.specs.show.Stopping.{CountsBytes, StopsPrefix}
use Rattle.bx_journal_format.specs.declared.read.marks.Mark.{Mark}
use Rattle.bx_journal_read.proofs.StopLemmas.{counts_both, handed_on, stops_first, stops_later, stops_none}
use Rattle.bx_journal.proofs.look.put_found.Goals as goal

pub put_steps-requires-clause-enough : goal.put_steps-requires-clause-enough
put_steps-requires-clause-enough g c = subst (λ ms. c.args.steps.count ≤ length ms) (sym c.as_slice.ensures.value) c.requires.enough

pub put_steps-requires-clause-lie : goal.put_steps-requires-clause-lie
put_steps-requires-clause-lie g c = (c.requires.lie.0, c.requires.lie.1, subst (All (LiesWithin c.requires.lie.0)) (sym c.as_slice.ensures.value) c.requires.lie.2)

pub returns-in-Ok-clause-put : goal.returns-in-Ok-clause-put
returns-in-Ok-clause-put g c h hd = (
  g.W.Write.contents c.put_torn.new.out,
  c.in_ok-before.ensures.line,
  subst (λ ms. AreStepsPut c.args.steps (g.D.Device.image c.args.image.now) (g.T.TextStore.text c.args.journal.now) c.args.steps.count ms (g.W.Write.contents c.put_torn.new.out) (g.W.Write.contents c.put_steps.new.out)) c.as_slice.ensures.value
      (c.in-Ok.ensures.steps h hd),
)

pub returns-in-Ok-clause-counted : goal.returns-in-Ok-clause-counted
returns-in-Ok-clause-counted g c h hd =
    let steps = λ (ms : List Mark). newest_steps c.args.steps (g.D.Device.image c.args.image.now) (g.T.TextStore.text c.args.journal.now) c.args.steps.count ms in
    counts_both 0 c.in_ok-before.before c.put_steps.new.writing.written (torn_text c.args.found.now.torn) (steps c.args.found.now.marks.items) c.in_ok-before.ensures.counted
    (subst (λ n. CountsBytes n (steps c.args.found.now.marks.items) c.put_steps.new.writing.written) c.in_ok-writing.ensures
    (subst (λ ms. CountsBytes c.in_ok-writing.writing.written (steps ms) c.put_steps.new.writing.written) c.as_slice.ensures.value (c.in-Ok.ensures.counted h hd)))

pub returns-in_err-before-clause-stops : goal.returns-in_err-before-clause-stops
returns-in_err-before-clause-stops g c h hd =
    handed_on c.from_residual.result _ _ c.from_residual.ensures.1
    (stops_first 0 (torn_text c.args.found.now.torn) (newest_steps c.args.steps (g.D.Device.image c.args.image.now) (g.T.TextStore.text c.args.journal.now) c.args.steps.count c.args.found.now.marks.items) _ _ _
    c.in_err-before.ensures.stops)

pub returns-in_err-writing-clause-stops : goal.returns-in_err-writing-clause-stops
returns-in_err-writing-clause-stops g c h hd =
    let steps = newest_steps c.args.steps (g.D.Device.image c.args.image.now) (g.T.TextStore.text c.args.journal.now) c.args.steps.count c.args.found.now.marks.items in
    let w1 = g.W.Write.contents c.put_torn.new.out in
    handed_on c.from_residual-in_err-writing.result _ (Text NoMemory) c.from_residual-in_err-writing.ensures.1
    (stops_later 0 c.in_ok-before.before (torn_text c.args.found.now.torn) steps (g.W.Write.contents c.args.out.now) w1 w1 (Text NoMemory) c.in_ok-before.ensures.line c.in_ok-before.ensures.counted
    (stops_none c.in_ok-before.before steps w1 NoMemory))

pub returns-clause-stops : goal.returns-clause-stops
returns-clause-stops g c h hd =
    let steps = λ (ms : List Mark). newest_steps c.args.steps (g.D.Device.image c.args.image.now) (g.T.TextStore.text c.args.journal.now) c.args.steps.count ms in
    let w1 = g.W.Write.contents c.put_torn.new.out in
    let w2 = g.W.Write.contents c.put_steps.new.out in
    stops_later 0 c.in_ok-before.before (torn_text c.args.found.now.torn) (steps c.args.found.now.marks.items) (g.W.Write.contents c.args.out.now) w1 w2 c.in-Err.fault
    c.in_ok-before.ensures.line c.in_ok-before.ensures.counted
    (subst (λ n. StopsPrefix n (steps c.args.found.now.marks.items) w1 w2 c.in-Err.fault) c.in_ok-writing.ensures
    (subst (λ ms. StopsPrefix c.in_ok-writing.writing.written (steps ms) w1 w2 c.in-Err.fault) c.as_slice.ensures.value (c.in-Err.ensures.stops h hd)))
