-- A session whose devices, counts and flag are as they were stands where it stood.
use Rattle.std.proofs.Common.{◌↔◌, ℕ, suc, List, sym, ◌∙◌, ap, subst}
use Rattle.bx_image.specs.declared.device.Device.{Ghosts as DeviceViews}
use Rattle.bx_journal_store.specs.declared.store.TextStore.{Ghosts as StoreViews}
use Rattle.bx_journal.specs.Images.{Images}
use Rattle.bx_journal.specs.Phase.{IsAtRest}
use Rattle.bx_journal.specs.Redo.{Finds, IsRedoOf}
use Rattle.bx_journal.specs.Session.{HasUndone, IsReady, IsRedoSame, IsSame, SessionFinds}
use Rattle.bx_journal.specs.SessionView.{SessionView}
use Rattle.bx_journal.specs.Stack.{StandsFor}
use Rattle.bx_journal.specs.Standing.{IsStanding}
use Rattle.bx_cli_commands.specs.Standing.{HoldsAt, Shows, Standing}

module _ {D T : Type 0} (image : D → List ℕ) (text : T → List ℕ) where
  ready_same : (old new : SessionView D T) (stack : List (List ℕ)) → IsSame image text old new → IsReady image text old stack → IsReady image text new stack
  ready_same old new stack same ready =
      let Text : List ℕ → Type 0 = λ t. IsAtRest t (image old.image) stack in
      let Image : List ℕ → Type 0 = λ x. IsAtRest (text new.journal) x stack in
      record {
        rest = subst Image (sym same.image_same) (subst Text (sym same.text_same) ready.rest);
        count = ready.count ∙ ap suc (sym same.count);
        whole = same.broken ∙ ready.whole;
      }

  standing_same : (old new : SessionView D T) (stack : List (List ℕ)) → IsSame image text old new → IsStanding image text old stack → IsStanding image text new stack
  standing_same old new stack same standing =
      let Text : List ℕ → Type 0 = λ t. StandsFor t (image old.image) stack in
      let Image : List ℕ → Type 0 = λ x. StandsFor (text new.journal) x stack in
      record {
        stands = subst Image (sym same.image_same) (subst Text (sym same.text_same) standing.stands);
        count = standing.count ∙ ap suc (sym same.count);
        whole = same.broken ∙ standing.whole;
      }

  undone_same : (old new : SessionView D T) (undone : List (List ℕ)) → IsSame image text old new → IsRedoSame text old new
      → HasUndone image text old undone → HasUndone image text new undone
  undone_same old new undone same redo_same has =
      let Redo : List ℕ → Type 0 = λ r. IsRedoOf r (image old.image) old.count undone in
      let Image : List ℕ → Type 0 = λ x. IsRedoOf (text new.redo) x old.count undone in
      let Count : ℕ → Type 0 = λ n. IsRedoOf (text new.redo) (image new.image) n undone in
      record {
        redo = subst Count (sym same.count) (subst Image (sym same.image_same) (subst Redo (sym redo_same.text_same) has.redo));
        counted = redo_same.undone ∙ has.counted;
      }

  finds_same : (old new : SessionView D T) (images : Images) → IsSame image text old new → IsRedoSame text old new
      → SessionFinds image text old images → SessionFinds image text new images
  finds_same old new images same redo_same finds =
      let Text : List ℕ → Type 0 = λ t. Finds t (image old.image) (text old.redo) images in
      let Image : List ℕ → Type 0 = λ x. Finds (text new.journal) x (text old.redo) images in
      let Redo : List ℕ → Type 0 = λ r. Finds (text new.journal) (image new.image) r images in
      subst Redo (sym redo_same.text_same) (subst Image (sym same.image_same) (subst Text (sym same.text_same) finds))

  pub shows_same : (old new : SessionView D T) (images : Images) → IsSame image text old new → IsRedoSame text old new
      → Shows image text old images → Shows image text new images
  shows_same old new images same redo_same shows =
      (standing_same old new images.stack same shows.0, undone_same old new images.undone same redo_same shows.1)

  -- a sound journal stands for its stack
  pub ready_shows : (s : SessionView D T) (images : Images) → IsReady image text s images.stack × HasUndone image text s images.undone → Shows image text s images
  ready_shows s images ready =
      (record { stands = ready.0.rest.stands; count = ready.0.count; whole = ready.0.whole }, ready.1)

pub holds_same : {D T : Type 0} (d : DeviceViews D) (t : StoreViews T) (old new : SessionView D T) (standing : Standing)
    → (d.faithful new.image ↔ d.faithful old.image) → (t.faithful new.journal ↔ t.faithful old.journal) → (t.faithful new.redo ↔ t.faithful old.redo)
    → IsSame d.image t.text old new → IsRedoSame t.text old new
    → HoldsAt d t old standing → HoldsAt d t new standing
holds_same d t old new (Standing.Up images) device store redo same redo_same h =
    (device.1 h.0, store.1 h.1, redo.1 h.2, (ready_same d.image t.text old new images.stack same h.3.0, undone_same d.image t.text old new images.undone same redo_same h.3.1))
holds_same d t old new (Standing.Down images) device store redo same redo_same h =
    (device.1 h.0, store.1 h.1, redo.1 h.2, (same.broken ∙ h.3.0, finds_same d.image t.text old new images same redo_same h.3.1))
