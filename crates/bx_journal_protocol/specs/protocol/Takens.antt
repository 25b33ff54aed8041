-- What some undos will take of the image: for each entry, the newest first, a record.
use Rattle.std.specs.Prelude.{◌≡◌, ◌≤◌, ℕ, ◌+◌, List, [], ◌∷◌, length, reverse}
use Rattle.bx_image.specs.declared.change.TheConstants.{MAX_LEN}
use Rattle.bx_image.specs.declared.record.Saved.{Saved}
use Rattle.bx_image.specs.Change.{restore, AllWithin, IsOf}
use Rattle.bx_image.specs.Runs.{AreRunsOf, HaveShape, LieBelow}
use Rattle.bx_journal_store.specs.declared.store.TextStore.{Ghosts as StoreViews}
use Rattle.bx_journal_format.specs.Kept.{kept_of}
use Rattle.bx_journal_format.specs.Entry.{entry_text}
use Rattle.bx_journal_format.specs.declared.read.types.EntryRead.{EntryRead}
use Rattle.bx_journal_model.specs.Taken.{IsKeptOf}

-- a record whose bytes are filled later: whatever has its length and ranges and the bytes of x keeps what restoring the entry takes of x
pub record IsRoomFor {A : Type 0} (x : List ℕ) (e : EntryRead A) (t : Saved A) : Type 0 where
  pub len_is : t.len ≡ length x
  pub below : LieBelow (length x) t.runs
  pub fills : (new : Saved A) → new.len ≡ t.len → HaveShape t.runs new.runs → AreRunsOf x new.runs → IsOf new x → length x ≤ MAX_LEN
      → IsKeptOf (kept_of e.kept) x (kept_of new)

-- the same, with the bytes of the image
pub record IsTakenBy {A : Type 0} (x : List ℕ) (e : EntryRead A) (t : Saved A) : Type 0 where
  pub len : t.len ≡ length x
  pub of_x : IsOf t x
  pub is : length x ≤ MAX_LEN → IsKeptOf (kept_of e.kept) x (kept_of t)

-- records for the newest of the entries from the image x on, each for the image that restoring the ones above it leaves
abbrev pub AreRoomFrom : {A : Type 0} → List ℕ → List (EntryRead A) → List (Saved A) → Type 0
AreRoomFrom x es [] = Unit {0}
AreRoomFrom x [] (t ∷ ts) = ⊥
AreRoomFrom x (e ∷ es) (t ∷ ts) = IsRoomFor x e t × AreRoomFrom (restore e.kept x) es ts

-- the first of them is filled
abbrev pub AreReady : {A : Type 0} → List ℕ → List (EntryRead A) → List (Saved A) → Type 0
AreReady x es [] = Unit {0}
AreReady x [] (t ∷ ts) = ⊥
AreReady x (e ∷ es) (t ∷ ts) = IsTakenBy x e t × AreRoomFrom (restore e.kept x) es ts

-- each lies below the length that the image then has, from this one on
abbrev pub LieInTurn : {A : Type 0} → ℕ → List (EntryRead A) → List (Saved A) → Type 0
LieInTurn len es [] = Unit {0}
LieInTurn len [] (t ∷ ts) = ⊥
LieInTurn len (e ∷ es) (t ∷ ts) = LieBelow len t.runs × LieInTurn e.kept.len es ts

-- all but the first do
abbrev pub LieBehind : {A : Type 0} → List (EntryRead A) → List (Saved A) → Type 0
LieBehind es [] = Unit {0}
LieBehind [] (t ∷ ts) = ⊥
LieBehind (e ∷ es) (t ∷ ts) = LieInTurn e.kept.len es ts

-- those for the last of the entries, the oldest of both first
abbrev pub AreReadyLast : {A : Type 0} → List ℕ → List (EntryRead A) → List (Saved A) → Type 0
AreReadyLast x es ts = AreReady x (reverse es) (reverse ts)

-- the last record was filled from the image x: whatever entries the records are for, they are ready, and the others lie where they did
pub record AreFilled {A : Type 0} (x : List ℕ) (old new : List (Saved A)) : Type 0 where
  pub ready : (es : List (EntryRead A)) → AreRoomFrom x es (reverse old) → AreReady x es (reverse new)
  pub behind : (len : ℕ) (es : List (EntryRead A)) → LieInTurn len es (reverse old) → LieBehind es (reverse new)

-- the runs of each end within its length
abbrev pub AllShaped : {A : Type 0} → List (Saved A) → Type 0
AllShaped [] = Unit {0}
AllShaped (t ∷ ts) = AllWithin t.len t.runs × AllShaped ts

-- how long their entries are
abbrev pub entries_len : {A : Type 0} → List (Saved A) → ℕ
entries_len [] = 0
entries_len (t ∷ ts) = length (entry_text 0 (kept_of t) 0) + entries_len ts

-- a store has room for them behind its text
abbrev pub HasRoomForEntries : {T A : Type 0} → StoreViews T → T → List (Saved A) → Type 0
HasRoomForEntries t s takens = length (t.text s) + entries_len takens ≤ t.room s

-- the first record lies below a length
abbrev pub IsFirstBelow : {A : Type 0} → ℕ → List (Saved A) → Type 0
IsFirstBelow len [] = Unit {0}
IsFirstBelow len (t ∷ ts) = LieBelow len t.runs

-- the length that the image has below these entries, the oldest first, where it has `len` above them all
abbrev pub length_at : {A : Type 0} → List (EntryRead A) → ℕ → ℕ
length_at [] len = len
length_at (e ∷ es) len = e.kept.len
