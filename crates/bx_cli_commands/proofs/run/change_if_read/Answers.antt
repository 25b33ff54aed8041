use Rattle.std.proofs.Common.{refl}
use Rattle.bx_image.specs.declared.change.Change.{Change}
use Rattle.bx_cli_commands.proofs.Obeys.{read_refused}
use Rattle.bx_cli_commands.proofs.run.change_if_read.Goals as goal

pub returns-in-Ok : goal.returns-in-Ok
returns-in-Ok g c = record { obeys = rw c.in-Ok.is c.run_change.ensures.obeys; tells = c.run_change.ensures.tells }

pub returns-in-Err : goal.returns-in-Err
returns-in-Err g c = record {
  obeys = rw c.in-Err.is (read_refused g.D.Device g.T.TextStore (λ (change : Change g.row.A.Denot). change) c.args.session.now c.in-Err.read_fault);
  tells = (refl, refl);
}
