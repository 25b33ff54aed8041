use Rattle.bx_journal.specs.Stack.{recovered}
use Rattle.bx_cli_commands.proofs.round_trip.open_clean.Goals as goal

pub returns-in-Clean-clause-opens : goal.returns-in-Clean-clause-opens
returns-in-Clean-clause-opens g c d t u =
    let e = c.in-Ok-open_devices.ensures in
    let same = e.spares.clean d t c.in-Clean.is in
    let accepted = e.text.accepted t in
    let undone = e.redo.undone d t u in (
      same.1,
      same.0,
      e.redo.clean_redo u c.in-Clean.is,
      (
        record { stack = recovered accepted.0 (g.D.Device.image c.args.devices.image); undone = undone.0 },
        record {
          image = e.devices.image_faith.1 d;
          journal = e.devices.journal_faith.1 t;
          redo = e.devices.redo_faith.1 u;
          shows = (e.found.standing d t accepted.0 accepted.1, undone.1);
        },
      ),
    )
