-- A change, its undo and its redo, each made by a call of a session: what the three devices stand for before and after them.
use Rattle.std.specs.Prelude.{◌≡◌, ℕ, Option, IfSome, Ok, Result, List}
use Rattle.bx_image.specs.declared.change.Change.{Change}
use Rattle.bx_image.specs.declared.device.Device.{Ghosts as DeviceViews}
use Rattle.bx_image.specs.Change.{effect}
use Rattle.bx_journal_store.specs.declared.store.TextStore.{Ghosts as StoreViews}
use Rattle.bx_journal.specs.Devices.{Devices}
use Rattle.bx_journal.specs.SessionFault.{SessionFault}
use Rattle.bx_journal.specs.Images.{Images, change_to, redo_of, undo_of}
use Rattle.bx_journal.specs.Machine.{PerformStep, RedoStep, UndoStep, changed, changes_of, top}
use Rattle.bx_journal.specs.Redo.{IsRedoOf}
use Rattle.bx_journal.specs.SessionView.{SessionView, devices_of}
use Rattle.bx_journal.specs.Stack.{StandsFor}
use Rattle.bx_cli_commands.specs.Standing.{Shows}

-- the images behind a change
abbrev pub images_after : {A : Type 0} → Change A → Images → Images
images_after c i = change_to (effect c (top i.stack)) i

-- Of a device and stores with these views.
module _ {D T : Type 0} (d : DeviceViews D) (t : StoreViews T) where
  -- the three are faithful, journal and image stand for the images that stand, and redo text and image for those that are undone
  pub record StandAt (x : Devices D T) (i : Images) : Type 0 where
    pub image : d.faithful x.image
    pub journal : t.faithful x.journal
    pub redo : t.faithful x.redo
    pub stands : StandsFor (t.text x.journal) (d.image x.image) i.stack
    pub undone : IsRedoOf (t.text x.redo) (d.image x.image) (changes_of i.stack) i.undone

  -- the session shows the images, and its three devices are faithful
  pub record RestsIn (s : SessionView D T) (i : Images) : Type 0 where
    pub image : d.faithful s.image
    pub journal : t.faithful s.journal
    pub redo : t.faithful s.redo
    pub shows : Shows d.image t.text s i

  -- from images that the old session shows, the new one, where there is one, shows the next
  abbrev pub MovesOn : (Images → Images) → SessionView D T → Option (SessionView D T) → Type 0
  MovesOn next old result = (i : Images) → RestsIn old i → IfSome result (λ new. RestsIn new (next i))

  -- and a step of the machine, which answered a number, was made
  abbrev pub MovesBy : (Images → Result ℕ SessionFault → Images → Type 0) → (Images → Images) → SessionView D T → Option (SessionView D T) → Type 0
  MovesBy step next old result = (i : Images) → RestsIn old i → IfSome result (λ new. RestsIn new (next i) × ((n : ℕ) × step i (Ok n) (next i)))

  -- image and texts are as they were, and the session shows images
  abbrev pub OpensAt : Devices D T → SessionView D T → Type 0
  OpensAt x s =
      (d.image s.image ≡ d.image x.image) × (t.text s.journal ≡ t.text x.journal) × (t.text s.redo ≡ t.text x.redo) × ((i : Images) × RestsIn s i)

  -- A change was made and undone: the three stood for images, the machine made both steps from these, and those that are left stand for what
  -- follows behind both
  pub record ChangesAndUndoes {A : Type 0} (old : Devices D T) (c : Change A) (next : Images → Images) (new : Devices D T) : Type 0 where
    pub start : Images
    pub stood : StandAt old start
    pub made : (n : ℕ) × PerformStep start.stack c (Ok n) (changed c start.stack)
    pub undone : (n : ℕ) × UndoStep (changed c start.stack) 1 (Ok n) start.stack
    pub stand : StandAt new (next (undo_of 1 (images_after c start)))

  -- and it was made again
  abbrev pub ChangesAgain : {A : Type 0} → Devices D T → Change A → Devices D T → Type 0
  ChangesAgain old c new = (trip : ChangesAndUndoes old c (redo_of 1) new)
      × ((n : ℕ) × RedoStep (undo_of 1 (images_after c trip.start)) 1 (Ok n) (redo_of 1 (undo_of 1 (images_after c trip.start))))

  -- such a trip, by a session that shows the images
  abbrev pub UndoneFrom : {A : Type 0} → Devices D T → Change A → SessionView D T → Type 0
  UndoneFrom old c s = (trip : ChangesAndUndoes old c (λ i. i) (devices_of s)) × RestsIn s (undo_of 1 (images_after c trip.start))
