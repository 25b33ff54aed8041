use Rattle.bx_image.proofs.Files.{IsPartlyWritten-front, OnErr_map, within_placed}
use Rattle.bx_image.proofs.device.file.FileImageDevice.write_at.Goals as goal

pub returns-clause-failed : goal.returns-clause-failed
returns-clause-failed g c faithful =
    rw c.counted.ensures.same (OnErr_map c.write_full-outcome.result _ _ (IsPartlyWritten-front c.args.at c.args.bytes.now _ _) (c.write_full-outcome.ensures.failed faithful))

pub invariant_of-self : goal.invariant_of-self
invariant_of-self g c =
    let outcome = c.write_full-outcome in
    record {
      fits = λ faithful.
          let before = outcome.ensures.faith.0 faithful in
          within_placed outcome.result c.args.at _ c.args.bytes.now _ _ (c.args.self.now.fits before) c.requires.range (outcome.ensures.ok before) (outcome.ensures.failed before);
    }
