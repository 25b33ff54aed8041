use Rattle.bx_run_session.proofs.preview.made.make_change.Goals as goal

pub returns-in-Copy-clause-made : goal.returns-in-Copy-clause-made
returns-in-Copy-clause-made g c faithful = rw c.in-Copy.is (c.make_of_copy.ensures.made (g.D.Device.image c.args.image.now))

pub returns-in-Copy-clause-stops : goal.returns-in-Copy-clause-stops
returns-in-Copy-clause-stops g c faithful = rw c.in-Copy.is (c.make_of_copy.ensures.stops (g.D.Device.image c.args.image.now))

pub returns-in-Read-clause-made : goal.returns-in-Read-clause-made
returns-in-Read-clause-made g c faithful =
    rw c.in-Read.is (rw c.into_proposal.ensures at (c.make_of_read.ensures.made faithful))

pub returns-in-Read-clause-stops : goal.returns-in-Read-clause-stops
returns-in-Read-clause-stops g c faithful =
    rw c.in-Read.is (rw c.into_proposal.ensures at (c.make_of_read.ensures.stops faithful))
