use Rattle.bx_run.proofs.LossLemmas.{done_weaker, drops_images, kept_alone, left_of_some, refused_weaker}
use Rattle.bx_run.proofs.laws.loss_in_forgetting.Goals as goal

pub returns : goal.returns
returns g c = record {
  kept = λ x new result are_faithful forgets.
      let keeps = kept_alone _ _ x new result are_faithful forgets in
      record {
        before = refused_weaker result (λ before. record {
          image_before = before.image_before;
          journal_before = before.journal_before;
          redo_before = before.redo_before;
        }) keeps.before;
        image = keeps.image;
        texts = keeps.texts;
        done = done_weaker result (λ on. record { image = on.image; journal = on.journal; redo = on.redo; found = on.found; all = on.all }) keeps.done;
      };
  drops = λ x new result s on forgets.
      let drops = drops_images _ _ x new result s
      (record { image = on.image; journal = on.journal; redo = on.redo; found = on.found; all = on.all }) forgets in
      record {
        found = drops.found;
        newest = drops.newest;
        refused = refused_weaker result (λ on. record { image = on.image; journal = on.journal; redo = on.redo; found = on.found; all = on.all }) drops.refused;
      };
  goes_on = left_of_some g.D.Device g.T.TextStore;
}
