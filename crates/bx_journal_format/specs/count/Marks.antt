-- Entries that are marked: where their saved lines stand in a text.
use Rattle.std.specs.Prelude.{◌≡◌, ◌≤◌, ◌+◌, ◌*◌, ℕ, suc, Some, List, [], ◌∷◌, ◌++◌, length, map, take}
use Rattle.bx_journal_format.specs.declared.read.count.Place.{Place}
use Rattle.bx_journal_format.specs.declared.read.count.Place.TheVariants.{Between as BetweenPlace, Saving as SavingPlace, Ending as EndingPlace}
use Rattle.bx_journal_format.specs.declared.read.marks.Mark.{Mark}
use Rattle.bx_journal_format.specs.declared.read.marks.Marking.{Marking}
use Rattle.bx_journal_format.specs.declared.read.marks.MarkedLines.{MarkedLines}
use Rattle.bx_journal_format.specs.Kept.{Run}
use Rattle.bx_journal_format.specs.Line.{save_line}
use Rattle.bx_journal_format.specs.Spelled.{EntryLines, GiveRuns, entry_in, entry_lines, runs_behind}
use Rattle.bx_journal_format.specs.Text.{Stage, Between, Saving, Ending, Reading, text_of_lines, split, start, after_lines}
use Rattle.bx_journal_format.specs.count.Rows.{saved_length, summed_of, with_more}

-- how many bytes lines have, with their newlines
abbrev pub lines_size : List (List ℕ) → ℕ
lines_size lines = length (text_of_lines lines)

-- the mark of an entry behind older ones
abbrev pub mark_of : List EntryLines → EntryLines → Mark
mark_of older c = record {
  from = lines_size (entry_lines older ++ c.first ∷ []);
  to = lines_size (entry_lines older ++ c.first ∷ c.saved);
  len = c.entry.saved.len;
  after = c.entry.after;
  saved = saved_length c.entry.saved;
}

-- the marks of entries, the oldest first
unfoldable pub marks_of : List EntryLines → List Mark
marks_of [] = []
marks_of (c ∷ older) = marks_of older ++ mark_of older c ∷ []

-- the lines of an entry that isn't finished, behind others, and where its saved lines begin and end
pub record IsBegun (older : List EntryLines) (len : ℕ) (given : List Run) (tail lines : List (List ℕ)) (from to : ℕ) : Type 0 where
  pub first : List ℕ
  pub saved : List (List ℕ)
  pub is : lines ≡ first ∷ (saved ++ tail)
  pub begins : from ≡ lines_size (entry_lines older ++ first ∷ [])
  pub ends : to ≡ lines_size (entry_lines older ++ first ∷ saved)
  pub runs : given ≡ runs_behind len [] saved

-- the lines behind finished entries are those of the unfinished one
abbrev pub GoOnWith : List EntryLines → Stage → List (List ℕ) → ℕ → ℕ → Type 0
GoOnWith older Between lines from to = lines ≡ []
GoOnWith older (Saving v s) lines from to = IsBegun older s.len s.runs [] lines from to
GoOnWith older (Ending v s) lines from to = IsBegun older s.len s.runs (save_line (suc (length older)) ∷ []) lines from to

-- a text of whole lines leads to this marking, and its finished entries have these marks
pub record IsMarked (text : List ℕ) (m : Marking) (marks : List Mark) : Type 0 where
  pub reading : Reading
  pub reads : after_lines start (split text).lines ≡ Some reading
  pub whole : (split text).rest ≡ []
  pub is : summed_of reading ≡ m.sums
  pub entries : List EntryLines
  pub are : map entry_in entries ≡ reading.entries
  pub behind : List (List ℕ)
  pub lines : (split text).lines ≡ entry_lines entries ++ behind
  pub goes_on : GoOnWith entries reading.stage behind m.from m.to
  pub runs : GiveRuns entries
  pub marks_are : marks ≡ marks_of entries

-- a marking behind `count` full saved lines more
abbrev pub IsMarkedOn : Marking → ℕ → Marking → Type 0
IsMarkedOn m count next = next ≡ record { sums = with_more m.sums (16 * count); from = m.from; to = m.to + 68 * count }

-- the mark of the entry that the last line ended, where the text stands at such a place
abbrev pub ended_mark : Place → Marking → List Mark
ended_mark BetweenPlace m = record { from = m.from; to = m.to; len = m.sums.len; after = m.sums.tally.told; saved = m.sums.saved } ∷ []
ended_mark (SavingPlace v len) m = []
ended_mark (EndingPlace v) m = []

-- the whole lines at the start of a window, with which a text goes on, lead from a marking and marks to others
pub record IsMarkedIn (window : List ℕ) (at : ℕ) (from : Marking) (old new : List Mark) (l : MarkedLines) : Type 0 where
  pub leads : (front : List ℕ) → length front ≡ at → IsMarked front from old → IsMarked (front ++ take l.taken window) l.marking new
  pub within : l.taken ≤ length window
