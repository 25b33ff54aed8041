-- What a change, its undo and its redo leave of the image.
use Rattle.std.proofs.Common.{◌≡◌, ◌≤◌, ℕ, Bool, true, false, if◌then◌else◌, nat_le, Option, None, Some, Ok, List, [], ◌∷◌, length, refl, sym, subst, ap, ◌∙◌, arith}
use Rattle.std.specs.Prelude.{IfSome}
use Rattle.bx_image.specs.declared.change.Change.{Change}
use Rattle.bx_image.specs.declared.change.TheConstants.{MAX_LEN}
use Rattle.bx_image.specs.Change.{effect}
use Rattle.bx_image.specs.declared.device.Device.{Ghosts as DeviceViews}
use Rattle.bx_journal_store.specs.declared.store.TextStore.{Ghosts as StoreViews}
use Rattle.bx_journal.specs.Images.{Images, redo_of, redone_by, undo_of}
use Rattle.bx_journal.specs.Machine.{PerformStep, UndoStep, changed, changes_of, top}
use Rattle.bx_journal.specs.Redo.{IsRedoOf}
use Rattle.bx_journal.specs.SessionView.{SessionView, devices_of}
use Rattle.bx_journal.specs.Stack.{StandsFor}
use Rattle.bx_journal.specs.Devices.{Devices}
use Rattle.bx_journal.proofs.Ready.{top_of}
use Rattle.bx_cli_commands.specs.RoundTrip.{RestsIn, StandAt, UndoneFrom, images_after}

module _ {D T : Type 0} (d : DeviceViews D) (t : StoreViews T) where
  -- the image of a session is the newest that it shows
  pub top_rests : (s : SessionView D T) (i : Images) → RestsIn d t s i → d.image s.image ≡ top i.stack
  top_rests s i rests =
      let stands = rests.shows.0.stands in
      sym (ap top stands.stack_is ∙ top_of stands.entries (d.image s.image))

  -- a session that shows images stands for them
  pub at_rest : (s : SessionView D T) (i : Images) → RestsIn d t s i → StandAt d t (devices_of s) i
  at_rest s i rests =
      let count = rests.shows.0.count in
      let changes : s.count ≡ changes_of i.stack = omega (arith, count) in
      record {
        image = rests.image;
        journal = rests.journal;
        redo = rests.redo;
        stands = rests.shows.0.stands;
        undone = subst (λ n. IsRedoOf (t.text s.redo) (d.image s.image) n i.undone) changes rests.shows.1.redo;
      }

  -- so do devices that have what it has
  pub stand_at : (x : Devices D T) (s : SessionView D T) (i : Images) → d.faithful x.image → t.faithful x.journal → t.faithful x.redo
      → d.image s.image ≡ d.image x.image → t.text s.journal ≡ t.text x.journal → t.text s.redo ≡ t.text x.redo → RestsIn d t s i → StandAt d t x i
  stand_at x s i dh th rh image_same text_same redo_same rests =
      let stand = at_rest s i rests in
      record {
        image = dh;
        journal = th;
        redo = rh;
        stands = subst (λ text. StandsFor text (d.image x.image) i.stack) text_same (subst (λ y. StandsFor (t.text s.journal) y i.stack) image_same stand.stands);
        undone = subst (λ text. IsRedoOf text (d.image x.image) (changes_of i.stack) i.undone) redo_same
            (subst (λ y. IsRedoOf (t.text s.redo) y (changes_of i.stack) i.undone) image_same stand.undone);
      }

  -- the image of three devices is the newest for which they stand
  pub trip_top : (x : Devices D T) (i : Images) → StandAt d t x i → top i.stack ≡ d.image x.image
  trip_top x i stand = ap top stand.stands.stack_is ∙ top_of stand.stands.entries (d.image x.image)

  -- an undo behind a change, if there is one
  pub undone_from : {A : Type 0} (x : Devices D T) (c : Change A) (i : Images) → StandAt d t x i → ((n : ℕ) × PerformStep i.stack c (Ok n) (changed c i.stack))
      → (result : Option (SessionView D T))
      → IfSome result (λ new. RestsIn d t new (undo_of 1 (images_after c i)) × ((n : ℕ) × UndoStep (changed c i.stack) 1 (Ok n) i.stack))
      → IfSome result (UndoneFrom d t x c)
  undone_from x c i stood made None undone = tt
  undone_from x c i stood made (Some new) undone =
      (record { start = i; stood = stood; made = made; undone = undone.1; stand = at_rest new (undo_of 1 (images_after c i)) undone.0 }, undone.0)

  -- behind a change and an undo the image is the first
  pub undone_image : {A : Type 0} (x : Devices D T) (c : Change A) (s : SessionView D T) → UndoneFrom d t x c s → d.image s.image ≡ d.image x.image
  undone_image x c s from = top_rests s (undo_of 1 (images_after c from.0.start)) from.1 ∙ trip_top x from.0.start from.0.stood

  undone_some : (b : Bool) (y : List ℕ) (stack : List (List ℕ)) → 1 ≤ length (if b then y ∷ [] else [])
      → top (redone_by 1 (if b then y ∷ [] else []) stack) ≡ y
  undone_some true y stack some = refl
  undone_some false y stack some = absurd (omega (arith, some))

  -- and behind a redo it is what the change makes of that
  pub redone_image : {A : Type 0} (x : List ℕ) (c : Change A) (i : Images) (s : SessionView D T) → top i.stack ≡ x
      → 1 ≤ length (undo_of 1 (images_after c i)).undone
      → RestsIn d t s (redo_of 1 (undo_of 1 (images_after c i))) → d.image s.image ≡ effect c x
  redone_image x c i s is some rests =
      let y = effect c (top i.stack) in
      top_rests s (redo_of 1 (undo_of 1 (images_after c i))) rests ∙ undone_some (nat_le (length y) MAX_LEN) y i.stack some ∙ ap (effect c) is
