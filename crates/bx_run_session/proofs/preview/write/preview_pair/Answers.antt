use Rattle.std.proofs.Common.{◌∙◌, sym}
use Rattle.bx_run_session.specs.Edit.{asked}
use Rattle.bx_run_session.proofs.PreviewFailed.{failed_before, failed_stopped}
use Rattle.bx_run_session.proofs.Previewing.{cut_behind}
use Rattle.bx_run_session.proofs.preview.write.preview_pair.Goals as goal

pub returns-in-Err-outcome : goal.returns-in-Err-outcome
returns-in-Err-outcome g c = record {
  previews = λ faithful twin same.
      let reads = c.in-Ok.ensures.reads in
      let stays = reads.stays faithful in
      cut_behind g.R.Read.remaining (asked c.args.edit) c.args.keeps (g.D.Device.image c.args.pair.image) _ c.in-Ok.made.change c.in-Ok.made.counts _ _ _ _
      stays c.in-Err-outcome.is (c.in-Ok.ensures.made faithful) (c.in-Ok.ensures.fits faithful)
      (c.write_changed-again.ensures.compared (reads.goes_on.faith.1 faithful) twin (same ∙ sym stays));
  failed = λ faithful twin is.
      c.write_changed-again.ensures.failed twin (failed_stopped c.write_changed-again.result.1 c.in-Err-outcome.fault c.in-Err-outcome.is is);
}

pub returns-in-Err-clause-failed : goal.returns-in-Err-clause-failed
returns-in-Err-clause-failed g c faithful twin is =
    failed_before g.R.Read.remaining (asked c.args.edit) c.args.keeps (g.D.Device.image c.args.pair.image) c.in-Err.why _ _ _
    (c.in-Err.ensures.stops faithful) c.in-Err.ensures.reads.goes_on.counted is
