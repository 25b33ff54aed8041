use Rattle.bx_cli_commands.proofs.LossParts.{finds_in_part}
use Rattle.bx_cli_commands.proofs.laws.loss_at_any_call.Goals as goal

pub returns : goal.returns
returns g c x opened s on opens =
    let found = finds_in_part _ _ g.row.A.Denot g.R.Read.remaining x opened s opens
    (record { image = on.image; journal = on.journal; redo = on.redo; found = on.found; all = on.all }) in
    found
