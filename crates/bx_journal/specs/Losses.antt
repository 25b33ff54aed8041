-- Openings behind losses of power: what is found, loss by loss.
use Rattle.std.specs.Prelude.{◌≡◌, ◌⊎◌, ℕ, List, [], ◌∷◌, Result, Ok, Err}
use Rattle.bx_image.specs.declared.device.Device.{Ghosts as DeviceViews}
use Rattle.bx_journal_store.specs.declared.store.TextStore.{Ghosts as StoreViews}
use Rattle.bx_journal_model.specs.declared.devices.Devices.{Devices}
use Rattle.bx_journal_model.specs.Power.{Found}
use Rattle.bx_journal_model.specs.SessionView.{devices_of}
use Rattle.bx_journal_protocol.specs.protocol.Written.{AreSettled}
use Rattle.bx_journal_model.specs.Images.{Images}
use Rattle.bx_journal_model.specs.Redo.{Finds}
use Rattle.bx_journal.specs.Opened.{Opening, OpensDevices}

-- what opening finds of a text it finds of it behind a loss of power that left it as it is: a sound text has no zero
abbrev pub FindsIsFound : Type 0
FindsIsFound = (text x redo : List ℕ) (s : Images) → Finds text x redo s → Found text x redo s

-- the same stack, and nothing undone
abbrev pub emptied : Images → Images
emptied s = record { stack = s.stack; undone = [] }

-- the three devices that opening leaves
abbrev pub left_by : {D T : Type 0} → Opening D T → Devices D T
left_by (Ok o) = devices_of o.0
left_by (Err e) = e.0

-- Of three devices.
module _ {D T : Type 0} (d : DeviceViews D) (t : StoreViews T) where
  -- whatever is found of them after a loss of power, opening finds the images
  abbrev pub AllFound : Devices D T → Images → Type 0
  AllFound x s = (y text redo : List ℕ) → d.survives x.image y → t.survives x.journal text → t.survives x.redo redo → Found text y redo s

  -- behind a loss of power: faithful devices, on the disk, that have what was found of those before it
  pub record AreLeft (x y : Devices D T) : Type 0 where
    pub image_faithful : d.faithful y.image
    pub journal_faithful : t.faithful y.journal
    pub redo_faithful : t.faithful y.redo
    pub image : d.survives x.image (d.image y.image)
    pub journal : t.survives x.journal (t.text y.journal)
    pub redo : t.survives x.redo (t.text y.redo)
    pub settled : AreSettled d t y

  -- Openings one behind another, whatever each answers, and a loss of power before each: at any moment of what was before, so also inside the
  -- opening before it
  abbrev pub Openings : List (Devices D T × Opening D T) → Devices D T → Devices D T → Type 0
  Openings [] x last = last ≡ x
  Openings (o ∷ list) x last = AreLeft x o.0 × OpensDevices d t o.0 o.1 × Openings list (left_by o.1) last

  -- what opening finds is kept through it: where the three were found with these images whatever is lost, they still are, or without those that
  -- were undone
  abbrev pub OpeningFinds : Type 0
  OpeningFinds = (old : Devices D T) (result : Opening D T) (s : Images) → d.faithful old.image → t.faithful old.journal → t.faithful old.redo
      → OpensDevices d t old result → Found (t.text old.journal) (d.image old.image) (t.text old.redo) s → AllFound old s
      → AllFound (left_by result) s ⊎ AllFound (left_by result) (emptied s)

  -- and so it is through any number of losses and openings
  abbrev pub OpeningsFind : Type 0
  OpeningsFind = (list : List (Devices D T × Opening D T)) (x last : Devices D T) (s : Images) → AllFound x s → Openings list x last
      → AllFound last s ⊎ AllFound last (emptied s)
