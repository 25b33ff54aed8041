-- Saved lines that are read a window at a time, and not kept: their bytes are decoded in the window, and go from there to the image.
use Rattle.std.specs.Prelude.{◌≡◌, ◌+◌, ◌<◌, ◌≤◌, ℕ, Some, All, List, [], ◌∷◌, ◌++◌, length, take, drop, map}
use Rattle.bx_journal_format.specs.declared.format.version.Version.{Version}
use Rattle.bx_journal_format.specs.declared.read.parts.Part.{Part}
use Rattle.bx_journal_format.specs.declared.read.parts.Stretch.{Stretch}
use Rattle.bx_journal_format.specs.Kept.{Kept, Run, with_run, with_runs}
use Rattle.bx_journal_format.specs.Line.{saved_in}
use Rattle.bx_journal_format.specs.Text.{Entry, Saving, split, start, after_lines}
use Rattle.bx_journal_format.specs.read.Plain.{HasNoNewline}

-- the text is whole lines, and stands among the saved lines of an entry behind these finished ones
pub record IsIn (text : List ℕ) (entries : List Entry) (v : Version) (s : Kept) : Type 0 where
  pub lines : after_lines start (split text).lines ≡ Some (record { entries = entries; stage = Saving v s })
  pub whole : (split text).rest ≡ []

-- the bytes of a part, at its address
abbrev pub part_run : List ℕ → Part → Run
part_run window part = record { at = part.at; bytes = take part.count (drop part.from window) }

-- runs with those of the parts of a window behind them, one after another
abbrev pub with_parts : List Run → List ℕ → List Part → List Run
with_parts runs window parts = with_runs runs (map (part_run window) parts)

-- a part lies in a window of this size and in an image of this length
abbrev pub LiesIn : ℕ → ℕ → Part → Type 0
LiesIn size len part = (part.from + part.count ≤ size) × (part.at + part.count ≤ len)

-- whatever text stands among the saved lines of an entry of an image of this length, with these bytes behind it it does so too, and
-- has the run behind the others
abbrev pub LeadBy : ℕ → List ℕ → Run → Type 0
LeadBy len bytes run =
    (text : List ℕ) (entries : List Entry) (v : Version) (runs : List Run) → IsIn text entries v (record { len = len; runs = runs })
    → IsIn (text ++ bytes) entries v (record { len = len; runs = with_run runs run })

-- The first bytes of a window are whole saved lines in an entry of an image of this length, and the parts are what they give, decoded in
-- the window. Behind a text that stands among the saved lines of such an entry these lines lead on to its runs with those of the parts
pub record GivesParts (len : ℕ) (old new : List ℕ) (parts : List Part) (taken : ℕ) : Type 0 where
  pub within : taken ≤ length old
  pub same : length new ≡ length old
  pub lie : All (LiesIn (length new) len) parts
  pub leads : (text : List ℕ) (entries : List Entry) (v : Version) (runs : List Run) → IsIn text entries v (record { len = len; runs = runs })
      → IsIn (text ++ take taken old) entries v (record { len = len; runs = with_parts runs new parts })

-- where there is room for a part, and a window begins with a whole saved line, some of it is taken
abbrev pub TakesSome : ℕ → List ℕ → ℕ → ℕ → Type 0
TakesSome len window room taken =
    (line rest : List ℕ) (run : Run) → 0 < room → HasNoNewline line → window ≡ line ++ 10 ∷ rest → saved_in len line ≡ Some run → 0 < taken

-- Saved lines at a place of a window that go on with one another: the window is left with their bytes at another place, not behind
-- the lines' end, and is otherwise the same before that place and behind those lines
pub record GivesStretch (len used from : ℕ) (old new : List ℕ) (s : Stretch) : Type 0 where
  pub some : 0 < s.taken
  pub within : from + s.taken ≤ length old
  pub same : length new ≡ length old
  pub before : take used new ≡ take used old
  pub behind : drop (from + s.taken) new ≡ drop (from + s.taken) old
  pub order : used + s.count ≤ from + s.taken
  pub below : s.at + s.count ≤ len
  pub leads : LeadBy len (take s.taken (drop from old)) (record { at = s.at; bytes = take s.count (drop used new) })
