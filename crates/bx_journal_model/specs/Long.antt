-- A line whose first bytes alone are read: they say what it is.
use Rattle.std.specs.Prelude.{◌≡◌, ◌⊎◌, ◌<◌, ◌≤◌, ℕ, ◌+◌, ◌-◌, nat_lt, if◌then◌else◌, List, [], ◌∷◌, ◌++◌, length, take, drop}
use Rattle.bx_journal_format.specs.Text.{ended}
use Rattle.bx_journal_format.specs.read.Plain.{HasNoNewline}
use Rattle.bx_journal_model.specs.declared.long.Cut.{Cut}

-- the bytes of a text between two places have no newline: the store's, where that is faithful
pub record IsPlainTo (faithful : Type 0) (stored : List ℕ) (from at : ℕ) : Type 0 where
  pub bytes : List ℕ
  pub is : faithful → bytes ≡ take (at - from) (drop from stored)
  pub long : from + length bytes ≡ at
  pub plain : HasNoNewline bytes

-- the first newline from a place on stands at another one, before an end; where there is none, that is the end
pub record IsNewlineFrom (faithful : Type 0) (stored : List ℕ) (from len at : ℕ) : Type 0 where
  pub plain : IsPlainTo faithful stored from at
  pub within : at ≤ len
  pub newline : faithful → at < len → (behind : List ℕ) × (drop at stored ≡ 10 ∷ behind)

-- a line of this size, with these first bytes, begins at a place of a text: of the store's, where that is faithful
pub record IsLongLine (faithful : Type 0) (stored : List ℕ) (at len : ℕ) (front : List ℕ) (size : ℕ) : Type 0 where
  pub more : List ℕ
  pub enough : 1024 ≤ length front
  pub long : length front + length more ≡ size
  pub plain : HasNoNewline (front ++ more)
  pub within : at + size + 1 ≤ len
  pub is : faithful → take (size + 1) (drop at stored) ≡ ended (front ++ more)

-- what follows a place begins with a line of fewer bytes, if with a whole line: in the store, where that is faithful
abbrev pub HasShortLine : Type 0 → List ℕ → ℕ → ℕ → Type 0
HasShortLine faithful stored at len = faithful → (line rest : List ℕ) → take (len - at) (drop at stored) ≡ line ++ 10 ∷ rest → HasNoNewline line → length line < 1024

-- these bytes are a line's first with a newline; the line has this size, and stands in a text at a place, where that is faithful
pub record IsCutLine (faithful : Type 0) (bytes stored : List ℕ) (at size : ℕ) : Type 0 where
  pub front : List ℕ
  pub more : List ℕ
  pub bytes_are : bytes ≡ ended front
  pub enough : 1024 ≤ length front
  pub plain : HasNoNewline (front ++ more)
  pub long : length front + length more + 1 ≡ size
  pub is : faithful → take size (drop at stored) ≡ ended (front ++ more)

-- the first bytes of a window are those of a text at a place, or of the line there, which is cut: of the store's, where that is faithful
pub record IsCut (faithful : Type 0) (stored : List ℕ) (at len : ℕ) (window : List ℕ) (c : Cut) : Type 0 where
  pub within : c.count ≤ length window
  pub below : at + c.count + c.left ≤ len
  pub stands : ((c.left ≡ 0) × (faithful → take c.count window ≡ take c.count (drop at stored)))
      ⊎ IsCutLine faithful (take c.count window) stored at (c.count + c.left)

-- how many bytes of the text the first bytes of a window stand for
abbrev pub passed_of : Cut → ℕ → ℕ
passed_of c taken = if nat_lt taken c.count then taken else taken + c.left

-- where a text begins with a whole line, other bytes begin with it, or with its first bytes and a newline
abbrev pub BeginsAlike : List ℕ → List ℕ → Type 0
BeginsAlike text bytes = (line rest : List ℕ) → text ≡ line ++ 10 ∷ rest → HasNoNewline line
    → (front more behind : List ℕ) × (bytes ≡ front ++ 10 ∷ behind) × (line ≡ front ++ more) × ((1024 ≤ length front) ⊎ (more ≡ []))
