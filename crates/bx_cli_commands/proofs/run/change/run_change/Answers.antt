use Rattle.std.proofs.Common.{sym, subst}
use Rattle.bx_cli_commands.proofs.Obeys.{perform_obeys, unperformed_obeys}
use Rattle.bx_cli_commands.proofs.Refusals.{IsNoRefusal, made_no_refusal, no_own}
use Rattle.bx_cli_commands.proofs.Tells.{change_tells, refused_change_tells}
use Rattle.bx_cli_commands.proofs.run.change.run_change.Goals as goal

pub returns-in-Ok : goal.returns-in-Ok
returns-in-Ok g c =
    let e = c.in-Ok.ensures in
    record {
      obeys = perform_obeys g.D.Device g.T.TextStore
          c.args.session.now c.perform.new.self c.args.change.now c.args.counts c.in-Ok.number c.made_reply.result c.made_reply.ensures
          e.safe e.accepted e.sound e.undone (λ d t u. (e.survives d t u).0);
      tells = change_tells c.args.session.now c.perform.new.self c.args.counts c.in-Ok.number c.made_reply.result c.made_reply.ensures (e.number.0, e.number.1, e.number.2);
      asked = no_own c.made_reply.result (subst IsNoRefusal (sym c.made_reply.ensures) (made_no_refusal c.args.counts c.in-Ok.number));
    }

pub returns-in-Err : goal.returns-in-Err
returns-in-Err g c =
    let e = c.in-Err.ensures in
    record {
      obeys = unperformed_obeys g.D.Device g.T.TextStore c.args.session.now c.perform.new.self c.args.change.now c.args.counts c.in-Err.fault
          e.safe e.faults.full e.faults.large e.faults.fits e.faults.fitted e.faults.kind e.finds (λ d t u. (e.survives d t u).0) e.found_before;
      tells = refused_change_tells c.args.session.now c.perform.new.self c.in-Err.fault e.faults.kind e.faults.full (e.safe.unmoved.0, e.safe.unmoved.1);
      asked = λ own. own;
    }
