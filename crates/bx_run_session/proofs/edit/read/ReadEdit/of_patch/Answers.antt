use Rattle.bx_run_session.specs.Input.{Input}
use Rattle.bx_run_session.proofs.edit.read.ReadEdit.of_patch.Goals as goal

pub invariant_of-result : goal.invariant_of-result
invariant_of-result c =
    let job = c.args.job.now in
    record {
      made = ∣ record {
        keeps = job.no_grow;
        input = Input.OfPatch job.reverse c.args.text.now;
        made = (c.in-Ok.patch, c.in-Ok.ensures.ok, c.patch_as.ensures);
      } ∣₁;
    }
