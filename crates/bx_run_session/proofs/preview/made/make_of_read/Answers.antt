use Rattle.bx_run_session.proofs.Proposing.{unagreed}
use Rattle.bx_run_session.proofs.preview.made.make_of_read.Goals as goal

pub returns-in-Err-clause-stops : goal.returns-in-Err-clause-stops
returns-in-Err-clause-stops g c faithful =
    rw c.in-Patch.is (unagreed g.R.Read.remaining (g.D.Device.image c.args.image.now) c.in-Patch.patch c.in-Err.why (c.in-Err.ensures.stops faithful))

pub returns-in-Keep-clause-made : goal.returns-in-Keep-clause-made
returns-in-Keep-clause-made g c faithful = rw c.in-Keep.is (c.make_of_kept.ensures.made faithful)

pub returns-in-Keep-clause-stops : goal.returns-in-Keep-clause-stops
returns-in-Keep-clause-stops g c faithful = rw c.in-Keep.is (c.make_of_kept.ensures.stops faithful)
