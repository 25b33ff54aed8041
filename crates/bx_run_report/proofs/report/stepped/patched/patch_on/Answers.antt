use Rattle.std.proofs.Common.{inl, refl}
use Rattle.bx_run_report.proofs.StepsCut.{whole_cut, whole_written}
use Rattle.bx_run_report.proofs.report.stepped.patched.patch_on.Goals as goal

pub returns-in-Ok-clause-shows : goal.returns-in-Ok-clause-shows
returns-in-Ok-clause-shows g c x text redo holds copy =
    whole_written g.D.Device g.T.TextStore x text redo c.in-Ok.session c.args.again (c.in-Ok.ensures.opened x text redo holds).devices
    (c.in-Ok.ensures.images x text redo holds) copy _ _ _ _ _ (c.patch_whole.ensures.writes x text redo)

pub returns-in-Ok-clause-stops : goal.returns-in-Ok-clause-stops
returns-in-Ok-clause-stops g c x text redo holds copy =
    whole_cut g.D.Device g.T.TextStore x text redo c.in-Ok.session c.args.again (c.in-Ok.ensures.opened x text redo holds).devices
    (c.in-Ok.ensures.images x text redo holds) copy _ _ _ _ _ (c.patch_whole.ensures.cut x text redo)

pub returns-in-Err-clause-stops : goal.returns-in-Err-clause-stops
returns-in-Err-clause-stops g c x text redo holds copy = inl (c.in-Err.ensures.hides x text redo holds, refl)
