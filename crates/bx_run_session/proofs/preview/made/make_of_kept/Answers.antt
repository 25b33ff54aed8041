use Rattle.bx_run_session.proofs.Proposing.{of_kept, unkept}
use Rattle.bx_run_session.proofs.preview.made.make_of_kept.Goals as goal

pub returns-in-Ok-clause-made : goal.returns-in-Ok-clause-made
returns-in-Ok-clause-made g c faithful =
    of_kept g.R.Read.remaining (g.D.Device.image c.args.image.now) c.args.kept c.in-Ok.change (c.in-Ok.ensures.change faithful)

pub returns-in-Err-clause-stops : goal.returns-in-Err-clause-stops
returns-in-Err-clause-stops g c faithful =
    unkept g.R.Read.remaining (g.D.Device.image c.args.image.now) c.args.kept c.in-Err.why (c.in-Err.ensures.stops faithful)
