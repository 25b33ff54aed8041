use Rattle.bx_cli_commands.specs.RoundTrip.{images_after}
use Rattle.bx_cli_commands.proofs.RoundTrips.{stand_at, undone_from}
use Rattle.bx_cli_commands.proofs.round_trip.changed_and_undone.Goals as goal

pub returns-clause-moves : goal.returns-clause-moves
returns-clause-moves g c d t u =
    let opened = c.in_ok-session.ensures.opens d t u in
    let i = opened.3.0 in
    let stood = stand_at g.D.Device g.T.TextStore c.args.devices c.in_ok-session.session i d t u opened.0 opened.1 opened.2 opened.3.1 in
    let made = c.in_ok-session-2.ensures.moves i opened.3.1 in
    let again = c.in_ok-session-3.ensures.same (images_after c.args.change.now i) made.0 in
    undone_from g.D.Device g.T.TextStore c.args.devices c.args.change.now i stood made.1 c.undone.result (c.undone.ensures.moves (images_after c.args.change.now i) again)
