use Rattle.bx_run_session.proofs.Inputs.{made_by_copy}
use Rattle.bx_run_session.specs.Input.{Input}
use Rattle.bx_run_session.proofs.edit.read.ReadEdit.of_copy.Goals as goal

pub invariant_of-edit : goal.invariant_of-edit
invariant_of-edit g c =
    let made = c.in-Ok.made in
    record {
      made = ∣ record {
        keeps = c.args.no_grow;
        input = Input.OfCopy c.args.plan.now (g.R.Read.remaining c.args.input.now) (g.R.Read.remaining c.change_of_plan.new.input) made.counts;
        made = made_by_copy c.args.no_grow c.args.plan.now _ _ made c.read_as.result c.in-Ok.ensures.ok c.read_as.ensures;
      } ∣₁;
    }
