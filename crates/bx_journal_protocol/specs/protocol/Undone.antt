-- What undoing one entry needs and leaves.
use Rattle.std.specs.Prelude.{◌≡◌, ◌⊎◌, ◌<◌, ◌≤◌, ◌+◌, ℕ, List, [], ◌∷◌, length, take, vec_capacity, Result, OnOk, OnErr}
use Rattle.bx_image.specs.declared.device.Device.{Ghosts as DeviceViews}
use Rattle.bx_journal_store.specs.declared.store.TextStore.{Ghosts as StoreViews}
use Rattle.bx_journal_model.specs.declared.devices.Devices.{Devices}
use Rattle.bx_image.specs.declared.record.Saved.{Saved}
use Rattle.bx_image.specs.Change.{AllWithin, KeepsUnmapped, restore}
use Rattle.bx_journal_format.specs.Entry.{entry_text}
use Rattle.bx_journal_format.specs.Kept.{Kept, kept_of}
use Rattle.bx_journal_format.specs.Text.{Entry}
use Rattle.bx_journal_format.specs.declared.format.version.Version.{Version}
use Rattle.bx_journal_model.specs.Phase.{IsAtRest, RecoversEither}
use Rattle.bx_journal_format.specs.Shown.{shown}
use Rattle.bx_journal_protocol.specs.declared.protocol.restore.Buffers.{Buffers}
use Rattle.bx_journal_model.specs.declared.mark.Mark.{Mark}
use Rattle.bx_journal_protocol.specs.declared.protocol.undo_entry.Placed.{Placed}
use Rattle.bx_journal_model.specs.Restoring.{IsEnough, StandsAt}
use Rattle.bx_journal_protocol.specs.protocol.Written.{AreSettled}
use Rattle.bx_journal_model.specs.Redo.{LeavesEither}
use Rattle.bx_journal_model.specs.Step.{TakesBack}
use Rattle.bx_journal_protocol.specs.protocol.Turns.{kept_text, side_of}
use Rattle.bx_journal_store.specs.Store.{IsCutInPart}

-- a record in its text has room in the image, and any line in a window
pub record CanRestore {A : Type 0} (room : ℕ) (mark : Mark) (buffers : Buffers A) : Type 0 where
  pub image_room : mark.len ≤ room
  pub order : mark.lines ≤ mark.saved
  pub window : IsEnough (length buffers.window.items)
  pub parts : 0 < vec_capacity buffers.parts

-- a window is as long as it was, and there is room for as many parts
pub record KeepsRoom {A : Type 0} (old new : Buffers A) : Type 0 where
  pub window : length new.window.items ≡ length old.window.items
  pub parts : vec_capacity old.parts ≤ vec_capacity new.parts

-- What is taken lies within its length, the redo text has room for its entry, and the page is empty and has room for each line
pub record CanKeep {T A : Type 0} (t : StoreViews T) (redo : T) (waiting : List ℕ) (capacity number : ℕ) (taken : Saved A) (after : ℕ) : Type 0 where
  pub within : AllWithin taken.len taken.runs
  pub fits : t.faithful redo → length (t.text redo) + length (entry_text number (kept_of taken) after) ≤ t.room redo
  pub empty : waiting ≡ []
  pub page_room : 82 ≤ capacity

-- where image and journal are faithful, each byte of the image stays that the record leaves out which stands at this place
abbrev pub KeepsLeftOut : {D T : Type 0} → DeviceViews D → StoreViews T → Mark → Devices D T → Devices D T → Type 0
KeepsLeftOut d t mark old new =
    d.faithful old.image → t.faithful old.journal → (s : Kept) → StandsAt (t.text old.journal) mark s → KeepsUnmapped s (d.image old.image) (d.image new.image)

-- The image is restored, the redo text has what was taken, and neither has less room
pub record Undoes {D T R E A : Type 0} (d : DeviceViews D) (t : StoreViews T) (result : Result R E) (old new : Devices D T) (number : ℕ) (taken : Saved A)
    (mark : Mark) : Type 0 where
  pub image_is : d.faithful old.image → t.faithful old.journal → (s : Kept) → StandsAt (t.text old.journal) mark s
      → OnOk result (d.image new.image ≡ restore s (d.image old.image))
  pub long : d.faithful old.image → OnOk result (length (d.image new.image) ≡ mark.len)
  pub redo_is : t.faithful old.redo → OnOk result (t.text new.redo ≡ kept_text (t.text old.redo) (kept_of taken) number mark.len)
  pub room_kept : d.room old.image ≤ d.room new.image
  pub redo_room : t.room old.redo ≤ t.room new.redo

-- The journal is cut first: where that is stopped image and redo text are as they were, and else the journal is cut
abbrev pub CutsFirst : {D T V E : Type 0} → StoreViews T → ℕ → Devices D T → Devices D T → Result V E → Type 0
CutsFirst t saved old new result = OnErr result (((new.image ≡ old.image) × (new.redo ≡ old.redo)
    × IsCutInPart saved (t.text old.journal) (t.text new.journal)) ⊎ (t.text new.journal ≡ take saved (t.text old.journal)))

-- Without its newest entry, whose record stands at this place, a pair is at rest
abbrev pub UndoRests : {D T V E : Type 0} → DeviceViews D → StoreViews T → Placed → Devices D T → Devices D T → Result V E → Type 0
UndoRests d t entry old new result =
    (below : List (List ℕ)) (v : Version) (e : Entry) → TakesBack (t.text old.journal) (d.image old.image) below v e entry.begins entry.mark.saved
    → StandsAt (t.text old.journal) entry.mark e.saved → OnOk result (IsAtRest (t.text new.journal) (d.image new.image) below)

-- and where that is stopped opening finds the old stack or the one below
abbrev pub UndoStops : {D T V E : Type 0} → DeviceViews D → StoreViews T → Placed → Devices D T → Devices D T → Result V E → Type 0
UndoStops d t entry old new result =
    (below : List (List ℕ)) (v : Version) (e : Entry) → TakesBack (t.text old.journal) (d.image old.image) below v e entry.begins entry.mark.saved
    → StandsAt (t.text old.journal) entry.mark e.saved → OnErr result (RecoversEither (t.text new.journal) (d.image new.image) (d.image old.image ∷ below) below)

-- and with the redo text all is as before, as behind it, or the journal is unfinished, where all three are faithful
abbrev pub LeftUndo : {D T A V E : Type 0} → DeviceViews D → StoreViews T → Placed → ℕ → Saved A → Devices D T → Devices D T → Result V E → Type 0
LeftUndo d t entry number taken old new result =
    d.faithful old.image → t.faithful old.journal → t.faithful old.redo → (below : List (List ℕ)) (v : Version) (e : Entry) → TakesBack (t.text old.journal) (d.image old.image) below v e entry.begins entry.mark.saved
    → StandsAt (t.text old.journal) entry.mark e.saved
    → OnErr result (LeavesEither (t.text new.journal) (d.image new.image) (t.text new.redo) (side_of (d.image old.image ∷ below) (d.image old.image) (t.text old.redo))
    (side_of below (restore e.saved (d.image old.image)) (kept_text (t.text old.redo) (kept_of taken) number entry.mark.len)))

-- Behind a loss of power, where all three were on the disk before, all is found as before the undo, as behind it, or the journal is unfinished
abbrev pub UndoSurvives : {D T A : Type 0} → DeviceViews D → StoreViews T → Placed → ℕ → Saved A → Devices D T → Devices D T → Type 0
UndoSurvives d t entry number taken old new =
    d.faithful old.image → t.faithful old.journal → t.faithful old.redo → AreSettled d t old → (below : List (List ℕ)) (v : Version) (e : Entry) → TakesBack (t.text old.journal) (d.image old.image) below v e entry.begins entry.mark.saved
    → StandsAt (t.text old.journal) entry.mark e.saved
    → (y text redo : List ℕ) → d.survives new.image y → t.survives new.journal text → t.survives new.redo redo
    → LeavesEither (shown text) y redo (side_of (d.image old.image ∷ below) (d.image old.image) (t.text old.redo))
    (side_of below (restore e.saved (d.image old.image)) (kept_text (t.text old.redo) (kept_of taken) number entry.mark.len))
