-- A session whose image is only read.
use Rattle.std.specs.Prelude.{◌≡◌, ℕ, List}
use Rattle.bx_image.specs.declared.device.Device.{Ghosts as DeviceViews}
use Rattle.bx_journal_store.specs.declared.store.TextStore.{Ghosts as StoreViews}
use Rattle.bx_journal_model.specs.SessionView.{SessionView}

-- the image is as it was, and all else is untouched
pub record OnlyLooks {D T : Type 0} (d : DeviceViews D) (t : StoreViews T) (old new : SessionView D T) : Type 0 where
  pub image : d.faithful old.image → d.image new.image ≡ d.image old.image
  pub journal : new.journal ≡ old.journal
  pub redo : new.redo ≡ old.redo
  pub count : new.count ≡ old.count
  pub undone : new.undone ≡ old.undone
  pub is_broken : new.is_broken ≡ old.is_broken
