use Rattle.std.proofs.Common.{ap, ◌∙◌}
use Rattle.bx_journal.specs.Images.{redo_of, undo_of}
use Rattle.bx_cli_commands.specs.RoundTrip.{images_after}
use Rattle.bx_cli_commands.proofs.RoundTrips.{at_rest, redone_image, trip_top}
use Rattle.bx_cli_commands.proofs.round_trip.change_undo_and_redo.Goals as goal

pub returns-clause-image : goal.returns-clause-image
returns-clause-image g c d t u =
    let from = c.in_ok-session.ensures.moves d t u in
    let undone = undo_of 1 (images_after c.args.change.now from.0.start) in
    let again = c.in_ok-session-2.ensures.same undone from.1 in
    ap g.D.Device.image c.closed.ensures.image
    ∙ redone_image g.D.Device g.T.TextStore (g.D.Device.image c.args.devices.image) c.args.change.now
    from.0.start c.in_ok-session-3.session (trip_top g.D.Device g.T.TextStore c.args.devices from.0.start from.0.stood)
    (c.in_ok-session-3.ensures.some undone again) (c.in_ok-session-3.ensures.moves undone again).0

pub returns-clause-done : goal.returns-clause-done
returns-clause-done g c d t u =
    let from = c.in_ok-session.ensures.moves d t u in
    let undone = undo_of 1 (images_after c.args.change.now from.0.start) in
    let again = c.in_ok-session-2.ensures.same undone from.1 in
    let made = c.in_ok-session-3.ensures.moves undone again in
    let stand = at_rest g.D.Device g.T.TextStore c.in_ok-session-3.session (redo_of 1 undone) made.0 in (
      record {
        start = from.0.start;
        stood = from.0.stood;
        made = from.0.made;
        undone = from.0.undone;
        stand = record {
          image = rw c.closed.ensures.image stand.image;
          journal = rw c.closed.ensures.journal stand.journal;
          redo = rw c.closed.ensures.redo stand.redo;
          stands = rw (c.closed.ensures.image, c.closed.ensures.journal) stand.stands;
          undone = rw (c.closed.ensures.image, c.closed.ensures.redo) stand.undone;
        };
      },
      made.1,
    )
