-- The grammar of a journal's text, and that it is what is read.
use Rattle.std.specs.Prelude.{◌≡◌, ◌⊎◌, ◌↔◌, ◌<◌, ◌≤◌, ◌^◌, ◌+◌, ℕ, suc, IsTrue, Option, None, Some, List, [], ◌∷◌, ◌++◌, length, take}
use Rattle.bx_image.specs.declared.change.TheConstants.{MAX_LEN}
use Rattle.bx_read.specs.Grammar.{IsLine}
use Rattle.bx_journal_format.specs.Kept.{Run, Kept, with_run}
use Rattle.bx_journal_format.specs.declared.format.version.Version.{Version}
use Rattle.bx_journal_format.specs.declared.format.version.Version.TheVariants.{First, Second}
use Rattle.bx_journal_format.specs.Line.{address_width, start_line, save_line, end_line}
use Rattle.bx_journal_format.specs.Text.{Entry, Stage, Between, Saving, Ending, Reading, Reads, IsDamagedAt, IsRest, may_begin, split}

-- A saved line: a line of a dump, of at most 16 bytes, which end within the length.
abbrev pub IsSaved : ℕ → List ℕ → Run → Type 0
IsSaved len line run = ((hex : List ℕ) × IsLine line run.at hex run.bytes) × (length run.bytes ≤ 16) × (run.at + length run.bytes ≤ len)

-- Saved lines lead from runs to runs, each by what it gives. A line that goes on with the last run makes that one longer.
abbrev pub AddRuns : ℕ → List Run → List (List ℕ) → List Run → Type 0
AddRuns len old [] new = new ≡ old
AddRuns len old (line ∷ lines) new = (run : Run) × IsSaved len line run × AddRuns len (with_run old run) lines new

-- The line that ends entry n; that of the second form tells a length.
abbrev pub IsEnd : Version → ℕ → Option ℕ → List ℕ → Type 0
IsEnd First n None line = line ≡ end_line First n 0
IsEnd First n (Some after) line = ⊥
IsEnd Second n None line = ⊥
IsEnd Second n (Some after) line = (line ≡ end_line Second n after) × (after ≤ MAX_LEN)

-- The lines of an entry behind older ones, up to its saved lines: the first has the next number and the image's length, which is
-- the one that the entry before it tells.
pub record IsHead (older : List Entry) (v : Version) (lines : List (List ℕ)) (s : Kept) : Type 0 where
  pub first : List ℕ
  pub saved : List (List ℕ)
  pub spelled : lines ≡ first ∷ saved
  pub room : length older < 65535
  pub start : first ≡ start_line v (suc (length older)) s.len
  pub small : s.len ≤ MAX_LEN
  pub fits : s.len < 16 ^ address_width v
  pub follows : IsTrue (may_begin older s.len)
  pub saves : AddRuns s.len [] saved s.runs

-- The lines of a finished entry: behind its saved lines its save line and its end line.
pub record IsEntry (older : List Entry) (lines : List (List ℕ)) (e : Entry) : Type 0 where
  pub version : Version
  pub head : List (List ℕ)
  pub last : List ℕ
  pub spelled : lines ≡ head ++ save_line (suc (length older)) ∷ last ∷ []
  pub begun : IsHead older version head e.saved
  pub ends : IsEnd version (suc (length older)) e.after last

-- Lines that are finished entries, one after another; the list has the newest first.
abbrev pub AreEntries : List (List ℕ) → List Entry → Type 0
AreEntries lines [] = lines ≡ []
AreEntries lines (e ∷ older) = (before own : List (List ℕ)) × (lines ≡ before ++ own) × AreEntries before older × IsEntry older own e

-- The lines of an unfinished entry: none, those up to its saved lines, or its save line too.
abbrev pub IsTail : List Entry → List (List ℕ) → Stage → Type 0
IsTail older lines Between = lines ≡ []
IsTail older lines (Saving v s) = IsHead older v lines s
IsTail older lines (Ending v s) = (head : List (List ℕ)) × (lines ≡ head ++ save_line (suc (length older)) ∷ []) × IsHead older v head s

-- The lines of a journal: finished entries, and behind them those of an unfinished one.
pub record AreLines (lines : List (List ℕ)) (r : Reading) : Type 0 where
  pub finished : List (List ℕ)
  pub tail : List (List ℕ)
  pub spelled : lines ≡ finished ++ tail
  pub entries : AreEntries finished r.entries
  pub unfinished : IsTail r.entries tail r.stage

-- A journal's text: such lines, and behind the last newline what may stand there.
abbrev pub IsJournal : List ℕ → Reading → Type 0
IsJournal text r = AreLines (split text).lines r × IsRest r.entries r.stage (split text).rest

-- A text is accepted exactly where it is in the grammar, and reads as its entries.
abbrev pub JournalHasForm : Type 0
JournalHasForm = (text : List ℕ) (r : Reading) → Reads text r ↔ IsJournal text r

-- The first k lines are those of a journal. With one more they aren't; or what follows the last newline can't stand there.
pub record StopsBehind (text : List ℕ) (k : ℕ) : Type 0 where
  pub reading : Reading
  pub before : AreLines (take k (split text).lines) reading
  pub stops : ((k < length (split text).lines) × ((r : Reading) → AreLines (take (suc k) (split text).lines) r → ⊥))
      ⊎ ((k ≡ length (split text).lines) × (IsRest reading.entries reading.stage (split text).rest → ⊥))

-- A text is damaged exactly at the first line that no journal has there.
abbrev pub DamagedIsFirst : Type 0
DamagedIsFirst = (text : List ℕ) (k : ℕ) → IsDamagedAt text (suc k) ↔ StopsBehind text k
