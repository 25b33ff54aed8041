use Rattle.std.proofs.Common.{ap, ◌∙◌}
use Rattle.bx_cli_commands.proofs.RoundTrips.{undone_image}
use Rattle.bx_cli_commands.proofs.round_trip.change_and_undo.Goals as goal

pub returns-clause-image : goal.returns-clause-image
returns-clause-image g c d t u =
    ap g.D.Device.image c.closed.ensures.image
    ∙ undone_image g.D.Device g.T.TextStore c.args.devices c.args.change.now c.in_ok-done.done (c.in_ok-done.ensures.moves d t u)

pub returns-clause-done : goal.returns-clause-done
returns-clause-done g c d t u =
    let trip = (c.in_ok-done.ensures.moves d t u).0 in
    record {
      start = trip.start;
      stood = trip.stood;
      made = trip.made;
      undone = trip.undone;
      stand = record {
        image = rw c.closed.ensures.image trip.stand.image;
        journal = rw c.closed.ensures.journal trip.stand.journal;
        redo = rw c.closed.ensures.redo trip.stand.redo;
        stands = rw (c.closed.ensures.image, c.closed.ensures.journal) trip.stand.stands;
        undone = rw (c.closed.ensures.image, c.closed.ensures.redo) trip.stand.undone;
      };
    }
