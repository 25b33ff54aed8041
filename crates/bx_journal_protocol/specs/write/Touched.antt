-- What some redos will touch of the image: for each entry, the newest first, ranges.
use Rattle.std.specs.Prelude.{◌≡◌, ◌<◌, ◌≤◌, ◌+◌, ℕ, List, [], ◌∷◌, length, reverse, Vec}
use Rattle.bx_image.specs.declared.change.Change.{Change}
use Rattle.bx_image.specs.declared.device.Device.{Ghosts as DeviceViews}
use Rattle.bx_image.specs.declared.change.TheConstants.{MAX_LEN}
use Rattle.bx_image.specs.declared.record.spans.Span.{Span}
use Rattle.bx_image.specs.Change.{saved, HaveBytes, Restores}
use Rattle.bx_image.specs.Over.{saved_over, LieWithin}
use Rattle.bx_journal_store.specs.declared.store.TextStore.{Ghosts as StoreViews}
use Rattle.bx_journal_format.specs.Entry.{head_text}
use Rattle.bx_journal_format.specs.declared.read.types.EntryRead.{EntryRead}
use Rattle.bx_journal_protocol.specs.declared.write.head.Head.{Head}
use Rattle.bx_journal_protocol.specs.declared.write.head.Place.{Place}
use Rattle.bx_journal_protocol.specs.write.Ranges.{head_from, kept_over, left_len, rest_len, IsPlace}

-- ranges of what restoring an entry overwrites or cuts off in an image of this length, which an entry can tell
pub record IsTouched {A : Type 0} (len : ℕ) (e : EntryRead A) (ranges : List Span) : Type 0 where
  pub few : len ≤ MAX_LEN
  pub within : LieWithin len ranges
  pub saved : (c : Change A) → Restores c e.kept → (x : List ℕ) → length x ≡ len → saved_over x ranges ≡ saved c x

-- ranges for the newest of the entries, from an image of this length on
abbrev pub AreTouched : {A B : Type 0} → ℕ → List (EntryRead A) → List (Vec Span B) → Type 0
AreTouched len es [] = Unit {0}
AreTouched len [] (r ∷ rs) = ⊥
AreTouched len (e ∷ es) (r ∷ rs) = IsTouched len e r.items × AreTouched e.kept.len es rs

-- the same from the image x on, where it is faithful
pub record AreTouchedFrom {A B : Type 0} (faithful : Type 0) (x : List ℕ) (es : List (EntryRead A)) (rs : List (Vec Span B)) : Type 0 where
  pub len : ℕ
  pub long : faithful → len ≡ length x
  pub touched : AreTouched len (reverse es) (reverse rs)

-- the head of an entry with ranges of the image x, which were looked at, is begun in a page, and its lines go on at a place
pub record IsHeadBegun (faithful : Type 0) (x : List ℕ) (number : ℕ) (ranges : List Span) (page : List ℕ) (place : Place) : Type 0 where
  pub is_place : IsPlace ranges place
  pub text : faithful → head_from x ranges place page number ≡ head_text number (kept_over x ranges)
  pub bytes : faithful → HaveBytes (kept_over x ranges).runs
  pub long : length page + rest_len ranges place ≡ 34 + left_len ranges 0
  pub some : 0 < length page

-- that of the first ranges is, if there are any
abbrev pub IsFirstBegun : {A : Type 0} → Type 0 → List ℕ → ℕ → List (Vec Span A) → List ℕ → Place → Type 0
IsFirstBegun faithful x number [] page place = Unit {0}
IsFirstBegun faithful x number (r ∷ rs) page place = IsHeadBegun faithful x number r.items page place

-- and it is the head that a redo of these goes on with
abbrev pub IsFirstHead : {D A B : Type 0} → DeviceViews D → D → ℕ → List (Vec Span A) → Head B → Type 0
IsFirstHead d x number takens head = IsFirstBegun (d.faithful x) (d.image x) number (reverse takens) head.page.items head.place

-- the first ranges lie within a length
abbrev pub IsFirstWithin : {A : Type 0} → ℕ → List (Vec Span A) → Type 0
IsFirstWithin len [] = Unit {0}
IsFirstWithin len (r ∷ rs) = LieWithin len r.items

-- how long their entries are: the first line, the save line and the end line have 80 bytes
abbrev pub entries_over : {A : Type 0} → List (Vec Span A) → ℕ
entries_over [] = 0
entries_over (r ∷ rs) = 80 + left_len r.items 0 + entries_over rs

-- a store has room for them behind its text
abbrev pub HasRoomForRanges : {T A : Type 0} → StoreViews T → T → List (Vec Span A) → Type 0
HasRoomForRanges t s takens = length (t.text s) + entries_over takens ≤ t.room s

-- each lies within a length that an entry can tell
abbrev pub AreToldRanges : {A : Type 0} → List (Vec Span A) → Type 0
AreToldRanges [] = Unit {0}
AreToldRanges (r ∷ rs) = LieWithin MAX_LEN r.items × AreToldRanges rs
