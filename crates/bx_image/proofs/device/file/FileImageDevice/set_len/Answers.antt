use Rattle.bx_image.proofs.Files.{IsPartlyCut-on_the_way, OnErr_map, within_cut}
use Rattle.bx_image.proofs.device.file.FileImageDevice.set_len.Goals as goal

pub returns-clause-failed : goal.returns-clause-failed
returns-clause-failed g c faithful =
    rw c.counted.ensures.same (OnErr_map c.resize_to-outcome.result _ _ (IsPartlyCut-on_the_way c.args.n _ _) (c.resize_to-outcome.ensures.failed faithful))

pub invariant_of-self : goal.invariant_of-self
invariant_of-self g c =
    let outcome = c.resize_to-outcome in
    record {
      fits = λ faithful.
          let before = outcome.ensures.faith.0 faithful in
          within_cut outcome.result c.args.n _ _ _ (c.args.self.now.fits before) c.requires.range (outcome.ensures.ok before) (outcome.ensures.failed before);
    }
