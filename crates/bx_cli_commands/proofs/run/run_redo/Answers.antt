use Rattle.bx_cli_commands.proofs.Obeys.{redo_obeys, unredone_obeys}
use Rattle.bx_cli_commands.proofs.Tells.{refused_redo_tells}
use Rattle.bx_cli_commands.proofs.run.run_redo.Goals as goal

pub returns-in-Ok : goal.returns-in-Ok
returns-in-Ok g c =
    let e = c.in-Ok.ensures in
    record {
      obeys = redo_obeys g.D.Device g.T.TextStore c.args.session.now c.redo.new.self c.args.j c.in-Ok.changes
          e.safe e.accepted e.sound (λ d t u. (e.survives d t u).0);
      tells = (e.number.0, e.number.1, e.number.2);
    }

pub returns-in-Err : goal.returns-in-Err
returns-in-Err g c =
    let e = c.in-Err.ensures in
    record {
      obeys = unredone_obeys g.D.Device g.T.TextStore c.args.session.now c.redo.new.self c.args.j c.in-Err.fault
          e.safe e.faults.nothing e.faults.kind e.faults.undamaged e.finds (λ d t u. (e.survives d t u).0) e.found_before;
      tells = refused_redo_tells c.args.session.now c.redo.new.self c.args.j c.in-Err.fault e.faults.kind e.faults.nothing (e.safe.unmoved.0, e.safe.unmoved.1);
    }
