use Rattle.bx_cli_commands.proofs.Agreed.{agreed, agreed_tells, disagrees, disagrees_tells, uncompared, uncompared_tells}
use Rattle.bx_patch.specs.Read.{asked_of}
use Rattle.bx_cli_commands.proofs.run.patch.patch_if_agreed.Goals as goal

pub returns-in-Ok-None : goal.returns-in-Ok-None
returns-in-Ok-None g c =
    let e = c.in-Ok-None.ensures in
    record {
      obeys = agreed g.D.Device g.T.TextStore c.args.session.now c.find_other.new.self c.run_change.new.session (asked_of c.args.patch) c.run_change.result
          (rw c.in-Ok-None.field-0-is at e.safe) e.looks e.found_before (rw c.in-Ok-None.field-0-is at e.found) (rw c.into_change.ensures at c.run_change.ensures.obeys) c.run_change.ensures.asked;
      tells = agreed_tells g.D.Device g.T.TextStore c.args.session.now c.find_other.new.self c.run_change.new.session c.run_change.result e.looks c.run_change.ensures.tells;
    }

pub returns-in-Ok-Some : goal.returns-in-Ok-Some
returns-in-Ok-Some g c =
    let e = c.in-Ok-Some.ensures in
    record {
      obeys = disagrees g.D.Device g.T.TextStore g.row.A.Denot c.args.session.now c.find_other.new.self (asked_of c.args.patch) c.in-Ok-Some.other
          (rw c.in-Ok-Some.field-0-is at e.safe) e.looks e.found_before (rw c.in-Ok-Some.field-0-is at e.found);
      tells = disagrees_tells g.D.Device g.T.TextStore c.args.session.now c.find_other.new.self c.in-Ok-Some.other e.looks;
    }

pub returns-in-Err : goal.returns-in-Err
returns-in-Err g c =
    let e = c.in-Err.ensures in
    record {
      obeys = uncompared g.D.Device g.T.TextStore g.row.A.Denot c.args.session.now c.find_other.new.self (asked_of c.args.patch) c.in-Err.fault
          e.safe e.looks e.found_before e.fault;
      tells = uncompared_tells g.D.Device g.T.TextStore c.args.session.now c.find_other.new.self c.in-Err.fault e.safe e.looks e.fault;
    }
