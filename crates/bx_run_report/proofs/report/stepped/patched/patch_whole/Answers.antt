use Rattle.std.proofs.Common.{◌∙◌, inl, refl, sym, ap, subst}
use Rattle.bx_patch.specs.preview.Changed.{effects}
use Rattle.bx_run_report.specs.report.Devices.{HoldBytes}
use Rattle.bx_run_report.proofs.StepsCut.{steps_cut, steps_written}
use Rattle.bx_run_report.proofs.report.stepped.patched.patch_whole.Goals as goal

pub returns-in-Ok-clause-writes : goal.returns-in-Ok-clause-writes
returns-in-Ok-clause-writes g c x text redo s holds =
    let back = subst (HoldBytes g.D.Device g.T.TextStore x text redo) (sym c.closed-devices.ensures) holds.devices in
    let is = c.steps_of-have.ensures s holds.counted in
    let same = c.in-Ok.ensures.image in
    let made = c.in-Ok.ensures.makes x text redo s back holds.images is in
    steps_written g.D.Device g.T.TextStore x text redo s c.args.session c.args.again holds _ _ _ _ _ _ _ _ c.if-have-k.false is
    (ap g.D.Device.image same ∙ back.image_is) (ap (effects c.in-Ok.changes.items) holds.copy.1 ∙ made)
    (c.put_patch-again.ensures.text (subst g.D.Device.faithful (sym same) back.image_faithful) holds.copy.0 (holds.copy.1 ∙ sym (ap g.D.Device.image same ∙ back.image_is)))

pub returns-in-Ok-clause-cut : goal.returns-in-Ok-clause-cut
returns-in-Ok-clause-cut g c x text redo s holds =
    let back = subst (HoldBytes g.D.Device g.T.TextStore x text redo) (sym c.closed-devices.ensures) holds.devices in
    let is = c.steps_of-have.ensures s holds.counted in
    let same = c.in-Ok.ensures.image in
    let made = c.in-Ok.ensures.makes x text redo s back holds.images is in
    steps_cut g.D.Device g.T.TextStore x text redo s c.args.session c.args.again holds _ _ _ _ _ _ _ _ c.if-have-k.false is
    (ap g.D.Device.image same ∙ back.image_is) (ap (effects c.in-Ok.changes.items) holds.copy.1 ∙ made)
    (c.put_patch-again.ensures.part (subst g.D.Device.faithful (sym same) back.image_faithful) holds.copy.0 (holds.copy.1 ∙ sym (ap g.D.Device.image same ∙ back.image_is)))

pub returns-in-Err-clause-cut : goal.returns-in-Err-clause-cut
returns-in-Err-clause-cut g c x text redo s holds =
    let back = subst (HoldBytes g.D.Device g.T.TextStore x text redo) (sym c.closed-devices.ensures) holds.devices in
    inl (c.in-Err.ensures.fails x text redo s back holds.images (c.steps_of-have.ensures s holds.counted), refl)
