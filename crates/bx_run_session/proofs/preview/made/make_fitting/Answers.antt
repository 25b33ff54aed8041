use Rattle.bx_run_session.specs.Edit.{asked}
use Rattle.bx_run_session.proofs.Proposing.{makes, too_long}
use Rattle.bx_run_session.proofs.preview.made.make_fitting.Goals as goal

pub returns-in-Ok-fit-clause-made : goal.returns-in-Ok-fit-clause-made
returns-in-Ok-fit-clause-made g c faithful =
    let reads = c.in-Ok.ensures.reads in
    let fits = rw (reads.stays faithful) at (c.in-Ok-fit.ensures.fits (reads.goes_on.faith.1 faithful)) in
    makes g.R.Read.remaining _ (asked c.args.edit) c.in-Ok.made.change c.in-Ok.made.counts (c.in-Ok.ensures.made faithful) fits.0.0

pub returns-in-Err-fit-clause-stops : goal.returns-in-Err-fit-clause-stops
returns-in-Err-fit-clause-stops g c faithful =
    let reads = c.in-Ok.ensures.reads in
    let stops = rw (reads.stays faithful) at (c.in-Err-fit.ensures.stops (reads.goes_on.faith.1 faithful)) in
    too_long g.R.Read.remaining _ (asked c.args.edit) c.in-Ok.made.change c.in-Ok.made.counts (c.in-Ok.ensures.made faithful) c.args.keeps
    c.in-Err-fit.why stops
