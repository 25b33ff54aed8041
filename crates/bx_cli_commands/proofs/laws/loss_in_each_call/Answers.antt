use Rattle.bx_cli_commands.proofs.LossParts.{one_in_part}
use Rattle.bx_cli_commands.proofs.laws.loss_in_each_call.Goals as goal

pub returns : goal.returns
returns g c = record {
  command = λ command x o s on opens reply new obeys.
      one_in_part _ _ x o s opens (record { image = on.image; journal = on.journal; redo = on.redo; found = on.found; all = on.all }) reply new _ obeys;
  change = λ read x o s on opens reply new obeys.
      one_in_part _ _ x o s opens (record { image = on.image; journal = on.journal; redo = on.redo; found = on.found; all = on.all }) reply new _ obeys;
  kept = λ kept x o s on opens reply new obeys.
      one_in_part _ _ x o s opens (record { image = on.image; journal = on.journal; redo = on.redo; found = on.found; all = on.all }) reply new _ obeys;
}
