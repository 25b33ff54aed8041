use Rattle.bx_cli_commands.specs.Growth.{KeptStep}
use Rattle.bx_cli_commands.specs.Run.{CommandStep, ReadStep}
use Rattle.bx_run.proofs.LossLemmas.{done_alone, end_on_disk, one_behind, opened_on_disk}
use Rattle.bx_run.proofs.laws.loss_in_renewal.Goals as goal

pub returns : goal.returns
returns g c = record {
  opened = λ x o s on opens.
      let opened = opened_on_disk _ _ x o s (record { image = on.image; journal = on.journal; redo = on.redo; found = on.found; all = on.all }) opens in (
        record { image = opened.0.image; journal = opened.0.journal; redo = opened.0.redo; found = opened.0.found; all = opened.0.all },
        opened.1,
      );
  command = λ command. record {
    found = λ x dropped opened are_faithful forgets opens. one_behind _ _ _ dropped opened _ (done_alone _ _ x dropped are_faithful forgets) opens;
    goes_on = λ x y start reply behind left. end_on_disk g.D.Device g.T.TextStore x y start reply (λ before. CommandStep g.R.Read.remaining before command) behind left;
  };
  change = λ change. record {
    found = λ x dropped opened are_faithful forgets opens. one_behind _ _ _ dropped opened _ (done_alone _ _ x dropped are_faithful forgets) opens;
    goes_on = λ x y start reply behind left. end_on_disk g.D.Device g.T.TextStore x y start reply (λ before. ReadStep before (λ c. c) change) behind left;
  };
  kept = λ kept. record {
    found = λ x dropped opened are_faithful forgets opens. one_behind _ _ _ dropped opened _ (done_alone _ _ x dropped are_faithful forgets) opens;
    goes_on = λ x y start reply behind left. end_on_disk g.D.Device g.T.TextStore x y start reply (λ before. KeptStep before kept) behind left;
  };
}
