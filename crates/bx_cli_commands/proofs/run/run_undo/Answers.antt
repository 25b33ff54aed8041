use Rattle.bx_cli_commands.proofs.Obeys.{undo_obeys, kept_obeys}
use Rattle.bx_cli_commands.proofs.Tells.{refused_undo_tells}
use Rattle.bx_cli_commands.proofs.run.run_undo.Goals as goal

pub returns-in-Ok : goal.returns-in-Ok
returns-in-Ok g c =
    let e = c.in-Ok.ensures in
    record {
      obeys = undo_obeys g.D.Device g.T.TextStore c.args.session.now c.undo.new.self c.args.k c.in-Ok.left
          e.safe e.accepted e.sound e.undone (λ d t u. (e.survives d t u).0);
      tells = (e.left.0, e.left.1, e.left.3);
    }

pub returns-in-Err : goal.returns-in-Err
returns-in-Err g c =
    let e = c.in-Err.ensures in
    record {
      obeys = kept_obeys g.D.Device g.T.TextStore c.args.session.now c.undo.new.self c.args.k c.in-Err.fault
          e.safe e.faults.few e.faults.kind e.faults.undamaged e.finds (λ d t u. (e.survives d t u).0) e.found_before;
      tells = refused_undo_tells c.args.session.now c.undo.new.self c.args.k c.in-Err.fault e.faults.kind e.faults.few (e.safe.unmoved.0, e.safe.unmoved.1);
    }
