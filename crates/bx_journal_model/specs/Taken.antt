-- What undos and redos write of the images that they leave behind.
use Rattle.std.specs.Prelude.{◌≡◌, ◌≤◌, ℕ, zero, suc, nat_le, Some, List, [], ◌∷◌, ◌++◌, length, if◌then◌else◌}
use Rattle.bx_image.specs.declared.change.TheConstants.{MAX_LEN}
use Rattle.bx_image.specs.Change.{restore, saved, IsOf}
use Rattle.bx_image.specs.Over.{LeavesZerosOut}
use Rattle.bx_journal_format.specs.Entry.{entry_text}
use Rattle.bx_journal_format.specs.Kept.{Kept}
use Rattle.bx_journal_format.specs.Text.{Entry}

-- what is saved of an image before a record is restored: the bytes that this overwrites or cuts off
abbrev pub taken : Kept → List ℕ → Kept
taken s x = saved (record { base = Some s.len; writes = s.runs }) x

-- a text of n entries behind restoring the first k of some records, from the image x on: each adds the entry of what it takes, with the length that it leaves. Of an image that is longer than an entry can tell nothing is kept, nor what was there before
abbrev pub taken_by : ℕ → List Entry → List ℕ → ℕ → List ℕ → List ℕ
taken_by zero entries x n text = text
taken_by (suc k) [] x n text = text
taken_by (suc k) (e ∷ entries) x n text =
    if nat_le (length x) MAX_LEN then taken_by k entries (restore e.saved x) (suc n) (text ++ entry_text (suc n) (taken e.saved x) e.saved.len)
    else taken_by k entries (restore e.saved x) 0 []

-- a record of the image x with what restoring another overwrites or cuts off, but perhaps zeros from the length on that this leaves: they come back by the length
pub record IsKeptOf (e : Kept) (x : List ℕ) (s : Kept) : Type 0 where
  pub of_x : IsOf s x
  pub zeros : LeavesZerosOut e.len (taken e x) s

-- how many are undone with the image x: none where it is longer than an entry can tell
abbrev pub count_with : List ℕ → ℕ → ℕ
count_with x n = if nat_le (length x) MAX_LEN then suc n else 0

-- their text then, with an entry of this record
abbrev pub text_with : List ℕ → ℕ → List ℕ → Kept → ℕ → List ℕ
text_with x n text s after = if nat_le (length x) MAX_LEN then text ++ entry_text (suc n) s after else []

-- a text of n entries becomes another behind restoring the first k of some records, from the image x on: each adds an entry that keeps what it takes
abbrev pub AreKept : ℕ → List Entry → List ℕ → ℕ → List ℕ → List ℕ → Type 0
AreKept zero entries x n text new = new ≡ text
AreKept (suc k) [] x n text new = new ≡ text
AreKept (suc k) (e ∷ entries) x n text new =
    (s : Kept) × (length x ≤ MAX_LEN → IsKeptOf e.saved x s) × AreKept k entries (restore e.saved x) (count_with x n) (text_with x n text s e.saved.len) new
