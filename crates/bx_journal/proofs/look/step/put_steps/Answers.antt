use Rattle.std.proofs.Common.{◌≡◌, ◌-◌, length, ap, subst, sym, arith, None}
use Rattle.std.proofs.KnownBytes.{Appends-nil}
use Rattle.std.specs.Io.KnownBytes.{Appends}
use Rattle.std.proofs.lemmas.List.Elements.{All-get_or}
use Rattle.bx_journal_format.specs.declared.read.marks.Mark.{Mark}
use Rattle.bx_journal_read.specs.show.ShownSteps.{first_number, AreStepsPut, newest_steps}
use Rattle.bx_journal_read.specs.show.Stopping.{CountsBytes}
use Rattle.bx_journal_read.specs.show.Showing.{LiesWithin}
use Rattle.bx_journal_read.proofs.BesideLemmas.{stayed_none, stayed_on}
use Rattle.bx_journal_read.proofs.StepTexts.{steps_none, steps_put}
use Rattle.bx_journal.proofs.StoppedLooks.{step_counted, step_stopped}
use Rattle.bx_journal_read.proofs.StopLemmas.{handed_on}
use Rattle.bx_journal.proofs.look.step.put_steps.Goals as goal

-- what stands for a mark where there is none
abbrev none : Mark
none = record { from = 0; to = 0; len = 0; after = None; saved = 0 }

pub loop-i-init : goal.loop-i-init
loop-i-init g c = record {
  steps = λ h hd. subst (Appends (g.W.Write.contents c.args.out.now) (g.W.Write.contents c.args.out.now))
      (sym (steps_none c.args.steps (g.D.Device.image c.args.image.now) (g.T.TextStore.text c.args.journal.now) (first_number c.args.steps.way c.args.steps.changes (length c.args.marks.now)) c.args.marks.now))
      (Appends-nil (g.W.Write.contents c.args.out.now));
  counted = λ h hd few. omega (
    arith,
    ap length (steps_none c.args.steps (g.D.Device.image c.args.image.now) (g.T.TextStore.text c.args.journal.now)
        (first_number c.args.steps.way c.args.steps.changes (length c.args.marks.now)) c.args.marks.now),
  );
  image = stayed_none g.D.Device.faithful g.D.Device.image g.D.Device.survives g.D.Device.failures c.args.image.now;
  text = stayed_none g.T.TextStore.faithful g.T.TextStore.text g.T.TextStore.survives g.T.TextStore.failures c.args.journal.now;
}

pub loop-i-preserved : goal.loop-i-preserved
loop-i-preserved g c =
    let inv = c.loop-i.invariant in
    let now = c.in_ok-put_step.ensures in
    record {
      steps = λ h hd. steps_put (g.W.Write.contents c.args.out.now) (g.W.Write.contents c.loop-i.out) (g.W.Write.contents c.put_step.new.out) c.args.steps (g.D.Device.image c.args.image.now) (g.D.Device.image c.loop-i.image)
          (g.T.TextStore.text c.args.journal.now) (g.T.TextStore.text c.loop-i.journal) (first_number c.args.steps.way c.args.steps.changes (length c.args.marks.now)) c.loop-i.i c.step_number-number.result c.args.marks.now none
          (omega (arith, c.requires.enough)) (λ t. inv.image.same (hd t)) (inv.text.same h) c.step_number-number.ensures (inv.steps h hd) (now.step (inv.text.faith.1 h) (λ t. inv.image.faith.1 (hd t)));
      counted = λ h hd. step_counted c.args.writing.now.written c.loop-i.writing.written c.put_step.new.writing.written c.args.steps (g.D.Device.image c.args.image.now) (g.D.Device.image c.loop-i.image)
          (g.T.TextStore.text c.args.journal.now) (g.T.TextStore.text c.loop-i.journal) (first_number c.args.steps.way c.args.steps.changes (length c.args.marks.now)) c.loop-i.i c.step_number-number.result c.args.marks.now none
          (omega (arith, c.requires.enough)) (λ t. inv.image.same (hd t)) (inv.text.same h) c.step_number-number.ensures (inv.counted h hd) (now.counted (inv.text.faith.1 h) (λ t. inv.image.faith.1 (hd t)));
      image = stayed_on inv.image now.puts.image.same now.puts.image_survives now.puts.image.faith now.puts.image.no_failure;
      text = stayed_on inv.text now.puts.text.same now.puts.text_survives now.puts.text.faith now.puts.text.no_failure;
    }

pub put_step-requires-clause-within : goal.put_step-requires-clause-within
put_step-requires-clause-within g c =
    let inv = c.loop-i.invariant in
    let lies = All-get_or (LiesWithin c.requires.lie.0) c.args.marks.now (length c.args.marks.now - 1 - c.loop-i.i) none (omega (arith, c.requires.enough)) c.requires.lie.2 in
    λ h. omega (arith, lies.1, c.requires.lie.1 (inv.text.faith.0 h), ap length (inv.text.same (inv.text.faith.0 h)))

pub put_step-requires-clause-order : goal.put_step-requires-clause-order
put_step-requires-clause-order g c = (All-get_or (LiesWithin c.requires.lie.0) c.args.marks.now (length c.args.marks.now - 1 - c.loop-i.i) none (omega (arith, c.requires.enough)) c.requires.lie.2).0

pub returns-clause-steps : goal.returns-clause-steps
returns-clause-steps g c h hd =
    let all : c.loop-i.i ≡ c.args.steps.count = omega (arith, c.loop-i-test.false, c.loop-i.auto.i-end) in
    subst (λ k. AreStepsPut c.args.steps (g.D.Device.image c.args.image.now) (g.T.TextStore.text c.args.journal.now) k c.args.marks.now (g.W.Write.contents c.args.out.now) (g.W.Write.contents c.loop-i.out)) all
    (c.loop-i.invariant.steps h hd)

pub returns-clause-counted : goal.returns-clause-counted
returns-clause-counted g c h hd =
    let all : c.loop-i.i ≡ c.args.steps.count = omega (arith, c.loop-i-test.false, c.loop-i.auto.i-end) in
    subst (λ k. CountsBytes c.args.writing.now.written (newest_steps c.args.steps (g.D.Device.image c.args.image.now) (g.T.TextStore.text c.args.journal.now) k c.args.marks.now) c.loop-i.writing.written) all
    (c.loop-i.invariant.counted h hd)

pub returns-in_err-put_step-clause-stops : goal.returns-in_err-put_step-clause-stops
returns-in_err-put_step-clause-stops g c h hd =
    let inv = c.loop-i.invariant in
    handed_on c.from_residual.result _ _ c.from_residual.ensures.1
    (step_stopped c.args.writing.now.written c.loop-i.writing.written c.args.steps.count (g.W.Write.contents c.args.out.now) (g.W.Write.contents c.loop-i.out) (g.W.Write.contents c.put_step.new.out) c.args.steps
    (g.D.Device.image c.args.image.now) (g.D.Device.image c.loop-i.image) (g.T.TextStore.text c.args.journal.now) (g.T.TextStore.text c.loop-i.journal)
    (first_number c.args.steps.way c.args.steps.changes (length c.args.marks.now)) c.loop-i.i c.step_number-number.result c.args.marks.now none _
    (omega (arith, c.loop-i-test.true)) c.requires.enough (λ t. inv.image.same (hd t)) (inv.text.same h) c.step_number-number.ensures (inv.steps h hd) (inv.counted h hd)
    (c.in_err-put_step.ensures.stops (inv.text.faith.1 h) (λ t. inv.image.faith.1 (hd t))))
