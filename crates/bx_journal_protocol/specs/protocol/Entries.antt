-- What undoing or redoing some entries leaves: as many as there are records of what is taken.
use Rattle.std.specs.Prelude.{◌≡◌, ◌≤◌, ℕ, List, length, drop, Result, IfOk, OnOk, OnErr}
use Rattle.bx_image.specs.declared.device.Device.{Ghosts as DeviceViews}
use Rattle.bx_journal_store.specs.declared.store.TextStore.{Ghosts as StoreViews}
use Rattle.bx_journal_model.specs.declared.devices.Devices.{Devices}
use Rattle.bx_journal_format.specs.Finished.{IsFinished}
use Rattle.bx_journal_format.specs.Text.{Entry}
use Rattle.bx_journal_model.specs.Images.{Images, redo_of, undo_of}
use Rattle.bx_journal_model.specs.Machine.{changes_of}
use Rattle.bx_journal_model.specs.Phase.{IsAtRest}
use Rattle.bx_journal_model.specs.Redo.{Finds}
use Rattle.bx_journal_model.specs.Taken.{taken_by, AreKept}
use Rattle.bx_journal_model.specs.OnTop.{OnTop}
use Rattle.bx_journal_model.specs.Stack.{Recovers, StandsFor}
use Rattle.bx_journal_format.specs.Shown.{shown}
use Rattle.bx_journal_protocol.specs.protocol.Written.{AreSettled}
use Rattle.bx_journal_protocol.specs.protocol.Turns.{AreAtRest, AreStanding}

-- a pair at rest for a stack is so without the newest images
abbrev pub DropsRest : {D T B V E : Type 0} → DeviceViews D → StoreViews T → Devices D T → Devices D T → List B → Result V E → Type 0
DropsRest d t old new takens result = (stack : List (List ℕ)) → IsAtRest (t.text old.journal) (d.image old.image) stack
    → OnOk result (IsAtRest (t.text new.journal) (d.image new.image) (drop (length takens) stack))

-- and so is one that stands for a stack
abbrev pub DropsStand : {D T B V E : Type 0} → DeviceViews D → StoreViews T → Devices D T → Devices D T → List B → Result V E → Type 0
DropsStand d t old new takens result = (stack : List (List ℕ)) → StandsFor (t.text old.journal) (d.image old.image) stack
    → OnOk result (StandsFor (t.text new.journal) (d.image new.image) (drop (length takens) stack))

-- where it is stopped opening finds the stack without some of them
abbrev pub DropsSome : {D T B V E : Type 0} → DeviceViews D → StoreViews T → Devices D T → Devices D T → List B → Result V E → Type 0
DropsSome d t old new takens result = (stack : List (List ℕ)) → IsAtRest (t.text old.journal) (d.image old.image) stack
    → OnErr result ((j : ℕ) × (j ≤ length takens) × Recovers (t.text new.journal) (d.image new.image) (drop j stack))

-- where all three are faithful and stand for images, they stand for those behind the undo, and it answers how many are undone
abbrev pub UndoAll : {D T B E : Type 0} → DeviceViews D → StoreViews T → Devices D T → Devices D T → ℕ → List B → Result ℕ E → Type 0
UndoAll d t old new undone takens result =
    d.faithful old.image → t.faithful old.journal → t.faithful old.redo → (s : Images) → AreStanding (t.text old.journal) (d.image old.image) (t.text old.redo) s → undone ≡ length s.undone
    → IfOk result (λ n. (n ≡ length (undo_of (length takens) s).undone) × AreStanding (t.text new.journal) (d.image new.image) (t.text new.redo) (undo_of (length takens) s))

-- and where it is stopped opening finds the images behind some of it
abbrev pub UndoSome : {D T B V E : Type 0} → DeviceViews D → StoreViews T → Devices D T → Devices D T → ℕ → List B → Result V E → Type 0
UndoSome d t old new undone takens result =
    d.faithful old.image → t.faithful old.journal → t.faithful old.redo → (s : Images) → AreAtRest (t.text old.journal) (d.image old.image) (t.text old.redo) s → undone ≡ length s.undone
    → OnErr result ((i : ℕ) × (i ≤ length takens) × Finds (t.text new.journal) (d.image new.image) (t.text new.redo) (undo_of i s))

-- and the redo text keeps what was taken for the entries of a journal of finished ones alone
abbrev pub UndoTakes : {D T B V E : Type 0} → DeviceViews D → StoreViews T → Devices D T → Devices D T → ℕ → List B → Result V E → Type 0
UndoTakes d t old new undone takens result =
    d.faithful old.image → t.faithful old.journal → t.faithful old.redo → (entries : List Entry) → IsFinished (t.text old.journal) entries
    → OnOk result (AreKept (length takens) entries (d.image old.image) undone (t.text old.redo) (t.text new.redo))

-- where all three are faithful and at rest, they are so behind the redo
abbrev pub RedoRests : {D T B V E : Type 0} → DeviceViews D → StoreViews T → Devices D T → Devices D T → ℕ → List B → Result V E → Type 0
RedoRests d t old new count takens result =
    d.faithful old.image → t.faithful old.journal → t.faithful old.redo → (s : Images) → AreAtRest (t.text old.journal) (d.image old.image) (t.text old.redo) s → count ≡ changes_of s.stack
    → OnOk result (AreAtRest (t.text new.journal) (d.image new.image) (t.text new.redo) (redo_of (length takens) s))

-- where they stand for images, they stand for those behind it
abbrev pub RedoAll : {D T B V E : Type 0} → DeviceViews D → StoreViews T → Devices D T → Devices D T → ℕ → List B → Result V E → Type 0
RedoAll d t old new count takens result =
    d.faithful old.image → t.faithful old.journal → t.faithful old.redo → (s : Images) → AreStanding (t.text old.journal) (d.image old.image) (t.text old.redo) s → count ≡ changes_of s.stack
    → OnOk result (AreStanding (t.text new.journal) (d.image new.image) (t.text new.redo) (redo_of (length takens) s))

-- and where it is stopped opening finds the images behind some of it
abbrev pub RedoSome : {D T B V E : Type 0} → DeviceViews D → StoreViews T → Devices D T → Devices D T → ℕ → List B → Result V E → Type 0
RedoSome d t old new count takens result =
    d.faithful old.image → t.faithful old.journal → t.faithful old.redo → (s : Images) → AreAtRest (t.text old.journal) (d.image old.image) (t.text old.redo) s → count ≡ changes_of s.stack
    → OnErr result ((i : ℕ) × (i ≤ length takens) × Finds (t.text new.journal) (d.image new.image) (t.text new.redo) (redo_of i s))

-- and the journal has what was taken for the entries of a redo text of finished ones alone
abbrev pub RedoTakes : {D T B V E : Type 0} → DeviceViews D → StoreViews T → Devices D T → Devices D T → ℕ → List B → Result V E → Type 0
RedoTakes d t old new count takens result =
    d.faithful old.image → t.faithful old.journal → t.faithful old.redo → (entries : List Entry) → IsFinished (t.text old.redo) entries
    → OnOk result (t.text new.journal ≡ taken_by (length takens) entries (d.image old.image) count (t.text old.journal))

-- whatever the redo text gave, a pair at rest for a stack is so for it with as many images on top
abbrev pub RestsOnTop : {D T B V E : Type 0} → DeviceViews D → StoreViews T → Devices D T → Devices D T → ℕ → List B → Result V E → Type 0
RestsOnTop d t old new count takens result =
    d.faithful old.image → t.faithful old.journal → (stack : List (List ℕ)) → IsAtRest (t.text old.journal) (d.image old.image) stack → count ≡ changes_of stack
    → OnOk result (OnTop (length takens) stack (IsAtRest (t.text new.journal) (d.image new.image)))

-- and so is one that stands for it
abbrev pub RedoStands : {D T B V E : Type 0} → DeviceViews D → StoreViews T → Devices D T → Devices D T → ℕ → List B → Result V E → Type 0
RedoStands d t old new count takens result =
    d.faithful old.image → t.faithful old.journal → (stack : List (List ℕ)) → StandsFor (t.text old.journal) (d.image old.image) stack → count ≡ changes_of stack
    → OnOk result (OnTop (length takens) stack (StandsFor (t.text new.journal) (d.image new.image)))

-- and where it is stopped opening finds the stack with some of them on top
abbrev pub StopsOnTop : {D T B V E : Type 0} → DeviceViews D → StoreViews T → Devices D T → Devices D T → ℕ → List B → Result V E → Type 0
StopsOnTop d t old new count takens result =
    d.faithful old.image → t.faithful old.journal → (stack : List (List ℕ)) → IsAtRest (t.text old.journal) (d.image old.image) stack → count ≡ changes_of stack
    → OnErr result ((i : ℕ) × (i ≤ length takens) × OnTop i stack (Recovers (t.text new.journal) (d.image new.image)))

-- where image and both texts were on the disk, they are so behind the steps
abbrev pub StaySettled : {D T V E : Type 0} → DeviceViews D → StoreViews T → Devices D T → Devices D T → Result V E → Type 0
StaySettled d t old new result = d.faithful old.image → t.faithful old.journal → t.faithful old.redo → AreSettled d t old → OnOk result (AreSettled d t new)

-- and where they are stopped, whatever is found behind a loss of power, opening finds the images behind some of the undos
abbrev pub UndoSomeSurvives : {D T B V E : Type 0} → DeviceViews D → StoreViews T → Devices D T → Devices D T → ℕ → List B → Result V E → Type 0
UndoSomeSurvives d t old new undone takens result =
    d.faithful old.image → t.faithful old.journal → t.faithful old.redo → AreSettled d t old
    → (s : Images) → AreAtRest (t.text old.journal) (d.image old.image) (t.text old.redo) s → undone ≡ length s.undone
    → OnErr result ((y text redo : List ℕ) → d.survives new.image y → t.survives new.journal text → t.survives new.redo redo
    → (i : ℕ) × (i ≤ length takens) × Finds (shown text) y redo (undo_of i s))

-- of the redos
abbrev pub RedoSomeSurvives : {D T B V E : Type 0} → DeviceViews D → StoreViews T → Devices D T → Devices D T → ℕ → List B → Result V E → Type 0
RedoSomeSurvives d t old new count takens result =
    d.faithful old.image → t.faithful old.journal → t.faithful old.redo → AreSettled d t old
    → (s : Images) → AreAtRest (t.text old.journal) (d.image old.image) (t.text old.redo) s → count ≡ changes_of s.stack
    → OnErr result ((y text redo : List ℕ) → d.survives new.image y → t.survives new.journal text → t.survives new.redo redo
    → (i : ℕ) × (i ≤ length takens) × Finds (shown text) y redo (redo_of i s))
