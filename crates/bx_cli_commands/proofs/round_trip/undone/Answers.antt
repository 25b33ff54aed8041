use Rattle.bx_cli_commands.proofs.round_trip.undone.Goals as goal

pub returns-in-Ok-clause-moves : goal.returns-in-Ok-clause-moves
returns-in-Ok-clause-moves g c i rests =
    let e = c.in-Ok.ensures in
    let made = e.accepted rests.image rests.journal i.stack rests.shows.0 in (
      record {
        image = e.safe.faith.0.1 rests.image;
        journal = e.safe.faith.1.1 rests.journal;
        redo = e.safe.faith.2.1 rests.redo;
        shows = (made.1, e.undone rests.image rests.journal rests.redo i rests.shows.0 rests.shows.1);
      },
      (_, made.0),
    )
