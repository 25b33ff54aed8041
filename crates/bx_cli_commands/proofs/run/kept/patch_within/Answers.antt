use Rattle.bx_cli_commands.proofs.Within.{patch_agreed, patch_disagrees, patch_unknown}
use Rattle.bx_patch.specs.Read.{asked_of}
use Rattle.bx_cli_commands.proofs.run.kept.patch_within.Goals as goal

pub returns-in-Ok-None : goal.returns-in-Ok-None
returns-in-Ok-None g c =
    let e = c.in-Ok-None.ensures in
    record {
      obeys = patch_agreed g.D.Device g.T.TextStore g.row.A.Denot c.args.session.now c.find_other.new.self c.change_within.new.session
          (asked_of c.args.patch) c.change_within.result (rw c.in-Ok-None.field-0-is at e.safe) e.looks e.found_before
          (rw c.in-Ok-None.field-0-is at e.found) (rw c.into_change.ensures at c.change_within.ensures.obeys) c.change_within.ensures.asked;
    }

pub returns-in-Ok-Some : goal.returns-in-Ok-Some
returns-in-Ok-Some g c =
    let e = c.in-Ok-Some.ensures in
    record {
      obeys = patch_disagrees g.D.Device g.T.TextStore g.row.A.Denot c.args.session.now c.find_other.new.self (asked_of c.args.patch)
          c.in-Ok-Some.other (rw c.in-Ok-Some.field-0-is at e.safe) e.looks e.found_before (rw c.in-Ok-Some.field-0-is at e.found);
    }

pub returns-in-Err : goal.returns-in-Err
returns-in-Err g c =
    let e = c.in-Err.ensures in
    record {
      obeys = patch_unknown g.D.Device g.T.TextStore g.row.A.Denot c.args.session.now c.find_other.new.self (asked_of c.args.patch) c.in-Err.fault
          e.safe e.looks e.found_before e.fault;
    }
