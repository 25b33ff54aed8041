-- Laws of the journal.
use Rattle.std.specs.Prelude.{◌≡◌, ◌<◌, ◌≤◌, ℕ, suc, IsTrue, Some, List, [], ◌∷◌, ◌++◌, length}
use Rattle.bx_image.specs.declared.change.TheConstants.{MAX_LEN}
use Rattle.bx_journal_format.specs.Kept.{Kept}
use Rattle.bx_image.specs.Change.{byte_in, AllWithin, HaveBytes}
use Rattle.bx_journal_format.specs.Entry.{entry_text}
use Rattle.bx_journal_format.specs.Text.{Entry, Between, Reads, split, may_begin, IsAccepted, IsDamagedAt}
use Rattle.bx_journal_model.specs.Stack.{StandsFor}
use Rattle.bx_journal_model.specs.Phase.{IsAtRest}

-- the entry has this length and these bytes
pub record HasBytes (e : Entry) (s : Kept) (after : ℕ) : Type 0 where
  pub len : e.saved.len ≡ s.len
  pub bytes : (i : ℕ) → byte_in e.saved.runs i ≡ byte_in s.runs i
  pub told : e.after ≡ Some after

-- behind n - 1 entries, the written entry n is read, and gives back what it was made of
abbrev pub WrittenIsRead : Type 0
WrittenIsRead = (text : List ℕ) (entries : List Entry) (s : Kept) (after : ℕ)
    → Reads text (record { entries = entries; stage = Between }) → (split text).rest ≡ [] → length entries < 65535
    → s.len ≤ MAX_LEN → after ≤ MAX_LEN → AllWithin s.len s.runs → HaveBytes s.runs → IsTrue (may_begin entries s.len)
    → (e : Entry) × HasBytes e s after
    × Reads (text ++ entry_text (suc (length entries)) s after) (record { entries = e ∷ entries; stage = Between })

-- a text and an image stand for one stack
abbrev pub StandsForOne : Type 0
StandsForOne = (text x : List ℕ) (s t : List (List ℕ)) → StandsFor text x s → StandsFor text x t → s ≡ t

-- no text is damaged at two lines, and none is accepted and damaged
abbrev pub DamagedAtOne : Type 0
DamagedAtOne = (text : List ℕ) (m : ℕ) → IsDamagedAt text m → (IsAccepted text → ⊥) × ((n : ℕ) → IsDamagedAt text n → m ≡ n)

-- an empty text and an image stand for the image alone, and are sound
abbrev pub EmptyIsSound : Type 0
EmptyIsSound = (x : List ℕ) → IsAtRest [] x (x ∷ [])
