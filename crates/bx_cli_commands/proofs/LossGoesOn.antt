-- What a loss of power leaves of three devices.
use Rattle.std.proofs.Common.{ℕ, Option, List, sym, subst}
use Rattle.bx_image.specs.declared.device.Device.{Ghosts as DeviceViews}
use Rattle.bx_journal_store.specs.declared.store.TextStore.{Ghosts as StoreViews}
use Rattle.bx_journal.specs.Devices.{Devices}
use Rattle.bx_journal.specs.Images.{Images}
use Rattle.bx_journal.specs.Losses.{AreLeft}
use Rattle.bx_journal.specs.Power.{Found}
use Rattle.bx_cli_commands.specs.Loss.{AreOnDisk, LossGoesOn}

module _ {D T : Type 0} (d : DeviceViews D) (t : StoreViews T) where
  -- images that are found in what is left are on the disk
  left_on_disk : (x y : Devices D T) (s : Images) → AreLeft d t x y → Found (t.text y.journal) (d.image y.image) (t.text y.redo) s → AreOnDisk d t y s
  left_on_disk x y s left found = record {
    image = left.image_faithful;
    journal = left.journal_faithful;
    redo = left.redo_faithful;
    found = found;
    all = λ z text redo image_there there redo_there.
        subst (λ r. Found text z r s) (sym (left.settled.redo redo redo_there))
        (subst (λ w. Found text w (t.text y.redo) s) (sym (left.settled.image z image_there))
        (subst (λ q. Found q (d.image y.image) (t.text y.redo) s) (sym (left.settled.journal text there)) found));
  }

  pub loss_goes_on : (R A : Type 0) (remaining : R → Option (List ℕ)) → LossGoesOn d t R A remaining
  loss_goes_on R A remaining x y left = (
    λ s all. left_on_disk x y s left (all (d.image y.image) (t.text y.journal) (t.text y.redo) left.image left.journal left.redo),
    λ start list replies part.
        let found = part (d.image y.image) (t.text y.journal) (t.text y.redo) left.image left.journal left.redo in
        (found.0, found.1, left_on_disk x y found.0 left found.2),
  )
