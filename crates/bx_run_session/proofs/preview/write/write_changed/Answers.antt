use Rattle.bx_run_session.proofs.PreviewFailed.{failed_unlisted}
use Rattle.bx_run_session.proofs.Previewing.{unlisted}
use Rattle.bx_run_session.proofs.preview.write.write_changed.Goals as goal

pub returns-in-Err : goal.returns-in-Err
returns-in-Err g c = record {
  compared = λ faithful twin same. unlisted c.args.change (g.D.Device.image c.args.image.now) (g.O.Write.contents c.args.out.now) c.in-Err.fault c.in-Err.ensures;
  failed = λ twin is. absurd (failed_unlisted c.in-Err.fault c.in-Err.ensures is);
}
