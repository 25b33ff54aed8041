use Rattle.std.proofs.Common.{refl}
use Rattle.bx_cli_commands.proofs.Obeys.{dd_refused}
use Rattle.bx_cli_commands.proofs.run.run_dd.Goals as goal

pub returns-in-Ok : goal.returns-in-Ok
returns-in-Ok g c = record { obeys = rw c.in-Ok.is c.run_change.ensures.obeys; tells = c.run_change.ensures.tells }

pub returns-in-Err : goal.returns-in-Err
returns-in-Err g c = record {
  obeys = rw c.in-Err.is (dd_refused g.D.Device g.T.TextStore g.row.A.Denot c.args.session.now c.in-Err.dd_fault);
  tells = (refl, refl);
}
