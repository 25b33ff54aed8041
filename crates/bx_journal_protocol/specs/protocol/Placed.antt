-- Entries that are to be taken back, by the places of their records alone.
use Rattle.std.specs.Prelude.{◌≡◌, ◌≤◌, ℕ, List, [], ◌∷◌, length, reverse}
use Rattle.bx_image.specs.declared.device.Device.{Ghosts as DeviceViews}
use Rattle.bx_journal_store.specs.declared.store.TextStore.{Ghosts as StoreViews}
use Rattle.bx_image.specs.declared.record.Saved.{Saved}
use Rattle.bx_journal_model.specs.declared.devices.Devices.{Devices}
use Rattle.bx_journal_format.specs.Kept.{kept_of}
use Rattle.bx_journal_format.specs.declared.read.types.EntryRead.{EntryRead}
use Rattle.bx_journal_protocol.specs.declared.protocol.undo_entry.Placed.{Placed}
use Rattle.bx_journal_model.specs.Restoring.{IsEnough, StandsAt}
use Rattle.bx_journal_protocol.specs.protocol.Takens.{AreReady}
use Rattle.bx_journal_model.specs.Undoing.{AreReadFrom}

-- an entry begins at this place and restores this length; its record stands in the text, where that is the faithful store's
pub record IsPlaced {A : Type 0} (faithful : Type 0) (text : List ℕ) (e : EntryRead A) (p : Placed) : Type 0 where
  pub begins : p.begins ≡ e.begins
  pub saved : p.mark.saved ≡ e.saved
  pub len : p.mark.len ≡ e.kept.len
  pub stands : faithful → StandsAt text p.mark (kept_of e.kept)

-- the first of these entries stand at these places
abbrev pub ArePlaced : {A : Type 0} → Type 0 → List ℕ → List (EntryRead A) → List Placed → Type 0
ArePlaced faithful text es [] = Unit {0}
ArePlaced faithful text [] (p ∷ ps) = ⊥
ArePlaced faithful text (e ∷ es) (p ∷ ps) = IsPlaced faithful text e p × ArePlaced faithful text es ps

-- the places lie in order, within an image's room, and any line within a window
abbrev pub AllFit : ℕ → ℕ → List Placed → Type 0
AllFit room window [] = Unit {0}
AllFit room window (p ∷ ps) =
    (p.begins ≤ p.mark.lines) × (p.mark.lines ≤ p.mark.saved) × (p.mark.len ≤ room) × IsEnough window × AllFit room window ps

-- the last entries of a text stand at these places, where the store is faithful, and the records of what their undos take of the image are ready
pub record ArePrepared {A : Type 0} (faithful : Type 0) (x : List ℕ) (text_faithful : Type 0) (stored : List ℕ) (places : List Placed)
    (takens : List (Saved A)) : Type 0 where
  pub entries : List (EntryRead A)
  pub read : AreReadFrom text_faithful stored entries
  pub few : length takens ≤ length entries
  pub placed : ArePlaced text_faithful stored (reverse entries) (reverse places)
  pub ready : faithful → AreReady x (reverse entries) (reverse takens)

-- the same of image and journal in one hand
abbrev pub ArePreparedIn : {D T A : Type 0} → DeviceViews D → StoreViews T → Devices D T → List Placed → List (Saved A) → Type 0
ArePreparedIn d t x places takens = ArePrepared (d.faithful x.image) (d.image x.image) (t.faithful x.journal) (t.text x.journal) places takens
