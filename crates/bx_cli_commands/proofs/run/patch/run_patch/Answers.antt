use Rattle.std.proofs.Common.{refl, inr}
use Rattle.bx_cli_commands.proofs.Agreed.{patch_refused}
use Rattle.bx_cli_commands.proofs.Obeys.{obeys_next}
use Rattle.bx_patch.specs.Read.{asked_of}
use Rattle.bx_cli_commands.proofs.run.patch.run_patch.Goals as goal

pub returns-in-Ok : goal.returns-in-Ok
returns-in-Ok g c = record {
  obeys = obeys_next g.D.Device g.T.TextStore (λ before after step. inr step) (rw c.replace-asked.ensures.value at c.patch_if_agreed.ensures.obeys);
  left = rw c.replace-asked.ensures.after c.in-Ok.ensures;
  tells = c.patch_if_agreed.ensures.tells;
}

pub returns-in-Err : goal.returns-in-Err
returns-in-Err g c = record {
  obeys = patch_refused g.D.Device g.T.TextStore g.row.A.Denot c.args.session.now (asked_of c.args.patch.now);
  left = c.forget.ensures;
  tells = inr (refl, refl);
}
