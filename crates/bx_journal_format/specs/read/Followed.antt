-- Full saved lines that go on with a run, one after another.
use Rattle.std.specs.Prelude.{◌≡◌, ◌+◌, ◌*◌, ◌<◌, ◌≤◌, ℕ, suc, Some, List, [], ◌∷◌, ◌++◌, length, take, drop}
use Rattle.bx_journal_format.specs.declared.format.version.Version.{Version}
use Rattle.bx_journal_format.specs.Kept.{Run}
use Rattle.bx_journal_format.specs.Line.{saved_in}
use Rattle.bx_journal_format.specs.count.Mark.{IsMark}
use Rattle.bx_journal_format.specs.read.Plain.{HasNoNewline}
use Rattle.bx_journal_format.specs.Text.{Entry, Saving, split}

-- the text begins with a full line, which gives these bytes at an address
pub record IsFullSaved (len at : ℕ) (text bytes : List ℕ) : Type 0 where
  pub long : 68 ≤ length text
  pub plain : HasNoNewline (take 67 text)
  pub ended : text ≡ take 67 text ++ 10 ∷ drop 68 text
  pub saved : saved_in len (take 67 text) ≡ Some (record { at = at; bytes = bytes })

-- the text begins with a full line of an entry of an image of this length
abbrev pub BeginsFull : ℕ → List ℕ → Type 0
BeginsFull len text = (at : ℕ) × (bytes : List ℕ) × (length bytes ≡ 16) × IsFullSaved len at text bytes

-- `count` full lines of such an entry stand at the beginning of the text, one after another
pub record AreFullSaved (len : ℕ) (text : List ℕ) (count : ℕ) : Type 0 where
  pub within : 68 * count ≤ length text
  pub each : (k : ℕ) → k < count → BeginsFull len (drop (68 * k) text)

-- the text is read up to a place among the saved lines of an entry; `line` is the number of the next one
pub record IsSavingTo (text : List ℕ) (entries : List Entry) (v : Version) (len : ℕ) (runs : List Run) (at line : ℕ) : Type 0 where
  pub mark : IsMark text at (record { entries = entries; stage = Saving v (record { len = len; runs = runs }) })
  pub counted : line ≡ suc (length (split (take at text)).lines)

-- `count` full lines, with which a text goes on, lead from these runs to those
pub record GoesOnBy (len : ℕ) (rest : List ℕ) (old new : List Run) (count : ℕ) : Type 0 where
  pub within : 68 * count ≤ length rest
  pub leads : (text : List ℕ) (entries : List Entry) (v : Version) (at line : ℕ) → rest ≡ drop at text → IsSavingTo text entries v len old at line
      → IsSavingTo text entries v len new (at + 68 * count) (line + count)

-- the runs, and one more behind them
abbrev pub with_last : List Run → ℕ → List ℕ → List Run
with_last front at bytes = front ++ record { at = at; bytes = bytes } ∷ []

-- the same of the bytes of the last run, at this address, whatever runs are in front of it
abbrev pub RunGoesOnBy : ℕ → List ℕ → ℕ → List ℕ → List ℕ → ℕ → Type 0
RunGoesOnBy len rest at old new count = (front : List Run) → GoesOnBy len rest (with_last front at old) (with_last front at new) count

-- `count` full lines of a window from a place on go on with any run of this address and size: their bytes stand at the
-- window's beginning, and what is behind the lines stays
pub record IsGathered (len at size from : ℕ) (old new : List ℕ) (count : ℕ) : Type 0 where
  pub within : from + 68 * count ≤ length old
  pub same : length new ≡ length old
  pub left : drop (from + 68 * count) new ≡ drop (from + 68 * count) old
  pub goes_on : (front : List Run) (bytes : List ℕ) → length bytes ≡ size
      → GoesOnBy len (drop from old) (with_last front at bytes) (with_last front at (bytes ++ take (16 * count) new)) count
