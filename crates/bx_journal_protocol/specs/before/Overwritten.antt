-- What some undos will overwrite of the image, and where their entries stand, as it is found before the first write.
use Rattle.std.specs.Prelude.{◌≡◌, ◌≤◌, ◌+◌, ℕ, Bool, false, List, [], ◌∷◌, length, reverse, slice_index}
use Rattle.std.specs.List.{list_any}
use Rattle.bx_image.specs.declared.change.Change.{Change}
use Rattle.bx_image.specs.declared.change.TheConstants.{MAX_LEN}
use Rattle.bx_image.specs.declared.record.Saved.{Saved}
use Rattle.bx_image.specs.declared.record.spans.Span.{Span}
use Rattle.bx_image.specs.Change.{restore, saved, Restores}
use Rattle.bx_image.specs.Over.{saved_over, LeavesZerosOut, LieWithin}
use Rattle.bx_image.specs.private.Change.{is_covered}
use Rattle.bx_image.specs.private.Spans.{are_over}
use Rattle.bx_journal_format.specs.declared.read.types.EntryRead.{EntryRead}
use Rattle.bx_journal_format.specs.Line.{start_size}
use Rattle.bx_journal_protocol.specs.declared.protocol.undo_entry.Placed.{Placed}
use Rattle.bx_journal_protocol.specs.declared.before.overwritten.Overwritten.{Overwritten}
use Rattle.bx_journal_protocol.specs.protocol.Takens.{AreRoomFrom}

-- whether the record of one of the entries has a byte at an address
abbrev pub are_written : {A : Type 0} → List (EntryRead A) → ℕ → Bool
are_written {A = A} es i = list_any (λ (e : EntryRead A). is_covered e.kept.runs i) es

-- the image that the entries leave, the oldest of them first, where they are all restored from the image x
abbrev pub image_below : {A : Type 0} → List (EntryRead A) → List ℕ → List ℕ
image_below [] x = x
image_below (e ∷ es) x = restore e.kept (image_below es x)

-- from an address on the image x has zeros but in the ranges
abbrev pub HasZerosBut : ℕ → List ℕ → List Span → Type 0
HasZerosBut base x blocks = (i : ℕ) → base ≤ i → are_over blocks i ≡ false → slice_index x i ≡ 0

-- and but where the record of one of the entries has a byte
abbrev pub HasZerosBesides : {A : Type 0} → ℕ → List ℕ → List Span → List (EntryRead A) → Type 0
HasZerosBesides base x blocks es = (i : ℕ) → base ≤ i → are_over blocks i ≡ false → are_written es i ≡ false → slice_index x i ≡ 0

-- ranges of the image x for an entry, which may leave zeros out from the length on that restoring it leaves
pub record IsOverwrittenOf {A B : Type 0} (x : List ℕ) (e : EntryRead A) (o : Overwritten B) : Type 0 where
  pub len_is : o.len ≡ length x
  pub within : LieWithin (length x) o.ranges.items
  pub saved : length x ≤ MAX_LEN → (c : Change A) → Restores c e.kept → LeavesZerosOut e.kept.len (saved c x) (saved_over {A = A} x o.ranges.items)

-- such ranges for the newest of the entries, and for each other from the image on that restoring the ones above it leaves
abbrev pub AreOverwrittenOf : {A B : Type 0} → List ℕ → List (EntryRead A) → List (Overwritten B) → Type 0
AreOverwrittenOf x es [] = Unit {0}
AreOverwrittenOf x [] (o ∷ os) = ⊥
AreOverwrittenOf x (e ∷ es) (o ∷ os) = IsOverwrittenOf x e o × AreOverwrittenOf (restore e.kept x) es os

-- each lies within its length
abbrev pub AreAllWithin : {A : Type 0} → List (Overwritten A) → Type 0
AreAllWithin [] = Unit {0}
AreAllWithin (o ∷ os) = LieWithin o.len o.ranges.items × AreAllWithin os

-- whatever entries and image the ranges are for, the records can be filled from the images that the undos lead through
abbrev pub HaveRoom : {A : Type 0} → List (Overwritten A) → List (Saved A) → Type 0
HaveRoom {A = A} os ts = (x : List ℕ) (es : List (EntryRead A)) → AreOverwrittenOf x es (reverse os) → AreRoomFrom x es (reverse ts)

-- the save line of an entry ends behind its first line
abbrev pub IsOrdered : {A : Type 0} → EntryRead A → Type 0
IsOrdered e = e.begins + start_size e.version + 1 ≤ e.saved

-- that of each does
abbrev pub AreOrdered : {A : Type 0} → List (EntryRead A) → Type 0
AreOrdered [] = Unit {0}
AreOrdered (e ∷ es) = IsOrdered e × AreOrdered es

-- where an entry stands in its text
abbrev pub place_in : {A : Type 0} → EntryRead A → Placed
place_in e =
    record { begins = e.begins; mark = record { lines = e.begins + start_size e.version + 1; saved = e.saved; len = e.kept.len } }
