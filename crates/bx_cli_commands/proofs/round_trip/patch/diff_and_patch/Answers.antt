use Rattle.std.proofs.Common.{ap, ◌∙◌}
use Rattle.bx_journal.specs.SessionView.{devices_of}
use Rattle.bx_patch.specs.Read.{asked_of}
use Rattle.bx_cli_commands.proofs.PatchTrips.{patch_trip, same_patched}
use Rattle.bx_cli_commands.proofs.round_trip.patch.diff_and_patch.Goals as goal

pub returns : goal.returns
returns g c old_faithful new_faithful x_bytes y_bytes d t u =
    let text = c.in_ok-text.ensures old_faithful new_faithful in
    let opened = c.in_ok-session.ensures.opens d t u in
    let patched = c.in_ok-session-2.ensures opened.3.0 opened.3.1 in
    patch_trip g.D.Device g.T.TextStore g.row.A.Denot c.args.extent (g.E.Device.image c.args.old.now) (g.F.Device.image c.args.new.now) c.as_slice.result.now c.args.reverse
    (asked_of c.in_ok-patch.patch) c.args.devices c.closed.result c.in_ok-session-2.made x_bytes y_bytes text.0 (c.as_slice.ensures.value ∙ text.1) c.in_ok-patch.ensures
    (same_patched g.D.Device g.T.TextStore g.row.A.Denot (asked_of c.in_ok-patch.patch) c.args.devices (devices_of c.in_ok-session.session) (devices_of c.in_ok-session-2.session)
    c.closed.result c.in_ok-session-2.made (record { image = opened.0; journal = opened.1; redo = opened.2 })
    (record { image = ap g.D.Device.image c.closed.ensures.image; journal = ap g.T.TextStore.text c.closed.ensures.journal; redo = ap g.T.TextStore.text c.closed.ensures.redo }) patched)
