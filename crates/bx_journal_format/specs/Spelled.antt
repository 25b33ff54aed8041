-- Finished entries as they stand in a text, with their lines.
use Rattle.std.specs.Prelude.{◌≡◌, ℕ, suc, Option, None, Some, List, [], ◌∷◌, ◌++◌, length, map}
use Rattle.bx_journal_format.specs.Finished.{IsFinished}
use Rattle.bx_journal_format.specs.Kept.{Run, with_run}
use Rattle.bx_journal_format.specs.Line.{save_line, saved_in}
use Rattle.bx_journal_format.specs.Text.{Entry, split}

-- an entry, and of its lines those that a text may spell in several ways: the first, the saved lines, and the last
pub record EntryLines : Type 0 where
  pub entry : Entry
  pub first : List ℕ
  pub saved : List (List ℕ)
  pub last : List ℕ

-- the entry alone
abbrev pub entry_in : EntryLines → Entry
entry_in c = c.entry

-- all lines of entries, which are given the newest first
unfoldable pub entry_lines : List EntryLines → List (List ℕ)
entry_lines [] = []
entry_lines (c ∷ older) = entry_lines older ++ c.first ∷ (c.saved ++ save_line (suc (length older)) ∷ c.last ∷ [])

-- runs with another behind them, if there is one
abbrev pub with_found : List Run → Option Run → List Run
with_found runs None = runs
with_found runs (Some run) = with_run runs run

-- the runs behind one more line: what it gives goes on with the last, where it is a saved line of an image of this length
abbrev pub with_line : ℕ → List Run → List ℕ → List Run
with_line len runs line = with_found runs (saved_in len line)

-- the runs that lines give behind others
unfoldable pub runs_behind : ℕ → List Run → List (List ℕ) → List Run
runs_behind len runs [] = runs
runs_behind len runs (line ∷ lines) = runs_behind len (with_line len runs line) lines

-- the saved lines of each entry give its runs
abbrev pub GiveRuns : List EntryLines → Type 0
GiveRuns [] = Unit {0}
GiveRuns (c ∷ older) = (c.entry.saved.runs ≡ runs_behind c.entry.saved.len [] c.saved) × GiveRuns older

-- the text is these finished entries alone, and their lines are these
pub record IsSpelled (text : List ℕ) (entries : List EntryLines) : Type 0 where
  pub finished : IsFinished text (map entry_in entries)
  pub lines : (split text).lines ≡ entry_lines entries
  pub runs : GiveRuns entries
