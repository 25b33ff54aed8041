-- What writing the entry of a change leaves, where image, journal and redo text are faithful.
use Rattle.std.specs.Prelude.{◌∷◌, ℕ, List, take, Result, OnOk, OnErr}
use Rattle.bx_image.specs.declared.device.Device.{Ghosts as DeviceViews}
use Rattle.bx_journal_store.specs.declared.store.TextStore.{Ghosts as StoreViews}
use Rattle.bx_journal_model.specs.declared.devices.Devices.{Devices}
use Rattle.bx_journal_protocol.specs.declared.write.head.Head.{Head}
use Rattle.bx_image.specs.declared.change.Change.{Change}
use Rattle.bx_image.specs.Change.{effect}
use Rattle.bx_image.specs.Power.{Only}
use Rattle.bx_journal_format.specs.Shown.{shown}
use Rattle.bx_journal_protocol.specs.declared.protocol.redo_text.RedoCut.{RedoCut}
use Rattle.bx_image.specs.declared.record.spans.Span.{Span}
use Rattle.bx_journal_format.specs.Entry.{head_text}
use Rattle.bx_journal_protocol.specs.write.Ranges.{kept_over}
use Rattle.bx_journal_model.specs.Phase.{IsAtRest, RecoversEither}
use Rattle.bx_journal_model.specs.Redo.{LeavesEither}
use Rattle.bx_journal_model.specs.Step.{WritesEntry}
use Rattle.bx_journal_protocol.specs.protocol.Turns.{cut_place, side_of}

-- the image and both texts are on the disk as they are
pub record AreSettled {D T : Type 0} (d : DeviceViews D) (t : StoreViews T) (x : Devices D T) : Type 0 where
  pub image : Only (d.image x.image) (d.survives x.image)
  pub journal : Only (t.text x.journal) (t.survives x.journal)
  pub redo : Only (t.text x.redo) (t.survives x.redo)

-- where the change is made, all three are on the disk
abbrev pub EntrySettles : {D T V E : Type 0} → DeviceViews D → StoreViews T → Devices D T → Devices D T → Result V E → Type 0
EntrySettles d t old new result = d.faithful old.image → t.faithful old.journal → t.faithful old.redo → OnOk result (AreSettled d t new)

-- the text of an entry's head which keeps these ranges of an image
abbrev pub head_on : {D A : Type 0} → (D → List ℕ) → D → List Span → Head A → List ℕ
head_on image x ranges head = head_text head.number (kept_over (image x) ranges)

-- The text of an entry: up to its save line, and the line that ends it
pub record EntryText : Type 0 where
  pub head : List ℕ
  pub end_line : List ℕ

-- that of an entry which keeps these ranges of the image
abbrev pub entry_on : {D T A : Type 0} → (D → List ℕ) → Devices D T → List Span → Head A → List ℕ → EntryText
entry_on image x ranges head end_line = record { head = head_on image x.image ranges head; end_line = end_line }

-- image and journal are at rest behind the entry, and the changed image is the newest of their stack
abbrev pub RestsBehind : {D T A V E : Type 0} → DeviceViews D → StoreViews T → Change A → EntryText → Devices D T → Devices D T → Result V E → Type 0
RestsBehind d t c entry old new result =
    d.faithful old.image → t.faithful old.journal → (stack : List (List ℕ)) → WritesEntry c (t.text old.journal) (d.image old.image) stack entry.head entry.end_line
    → OnOk result (IsAtRest (t.text new.journal) (d.image new.image) (effect c (d.image old.image) ∷ stack))

-- where it is stopped, opening finds the old stack or the new one
abbrev pub StopsEither : {D T A V E : Type 0} → DeviceViews D → StoreViews T → Change A → EntryText → Devices D T → Devices D T → Result V E → Type 0
StopsEither d t c entry old new result =
    d.faithful old.image → t.faithful old.journal → (stack : List (List ℕ)) → WritesEntry c (t.text old.journal) (d.image old.image) stack entry.head entry.end_line
    → OnErr result (RecoversEither (t.text new.journal) (d.image new.image) stack (effect c (d.image old.image) ∷ stack))

-- and with the redo text, which is cut in part, all is as before, as behind it, or the journal is unfinished
abbrev pub LeavesBoth : {D T A V E : Type 0} → DeviceViews D → StoreViews T → Change A → EntryText → RedoCut → Devices D T → Devices D T → Result V E → Type 0
LeavesBoth d t c entry part old new result =
    d.faithful old.image → t.faithful old.journal → t.faithful old.redo
    → (stack : List (List ℕ)) → WritesEntry c (t.text old.journal) (d.image old.image) stack entry.head entry.end_line
    → OnErr result (LeavesEither (t.text new.journal) (d.image new.image) (t.text new.redo) (side_of stack (d.image old.image) (t.text old.redo))
    (side_of (effect c (d.image old.image) ∷ stack) (effect c (d.image old.image)) (take (cut_place part) (t.text old.redo))))

-- so it is of whatever is found of the three behind a loss of power, where all was on the disk before
abbrev pub SurvivesBoth : {D T A : Type 0} → DeviceViews D → StoreViews T → Change A → EntryText → RedoCut → Devices D T → Devices D T → Type 0
SurvivesBoth d t c entry part old new =
    d.faithful old.image → t.faithful old.journal → t.faithful old.redo → AreSettled d t old
    → (stack : List (List ℕ)) → WritesEntry c (t.text old.journal) (d.image old.image) stack entry.head entry.end_line
    → (y text redo : List ℕ) → d.survives new.image y → t.survives new.journal text → t.survives new.redo redo
    → LeavesEither (shown text) y redo (side_of stack (d.image old.image) (t.text old.redo))
    (side_of (effect c (d.image old.image) ∷ stack) (effect c (d.image old.image)) (take (cut_place part) (t.text old.redo)))
