-- The changes before what is unfinished, a line each.
use Rattle.std.specs.Prelude.{◌≡◌, ℕ, suc, Bool, Option, List, [], ◌∷◌, ◌++◌, length, map, flat_map, codes, decimal, if◌then◌else◌}
use Rattle.std.specs.Io.KnownBytes.{Appends}
use Rattle.bx_journal_format.specs.Spelled.{EntryLines, IsSpelled, entry_in}
use Rattle.bx_journal_format.specs.Text.{Entry, Stage}
use Rattle.bx_journal_format.specs.declared.read.marks.Mark.{Mark}
use Rattle.bx_journal_read.specs.show.Stopping.{StopsPrefix}
use Rattle.bx_journal.specs.Calls.{rows_of}
use Rattle.bx_journal.specs.ShowFault.{ShowFault}
use Rattle.bx_journal.specs.ShowFault.TheVariants as look
use Rattle.bx_journal.specs.Showing.{places_at, ranges_rows, row_front}
use Rattle.bx_journal.specs.ShownSteps.{HasFront, IsUnfinishedBehind, unfinished_line}
use Rattle.bx_cli_commands.specs.Listing.{StopsListing, log_line}
use Rattle.bx_cli_commands.specs.declared.fault.Fault.{Fault}
use Rattle.bx_cli_commands.specs.declared.fault.Fault.TheVariants.{Io, Session}
use Rattle.bx_world.specs.World.{SystemState, held}
use Rattle.bx_world.specs.declared.files.names.Names.{Names}
use Rattle.bx_run_report.specs.report.Looks.{IsNotOpened, IsUnseenOr}
use Rattle.bx_run_report.specs.declared.report.error.ReportError.{ReportError}
use Rattle.bx_run_report.specs.declared.report.error.ReportError.TheVariants.{Stopped}

-- the rows of entries, the oldest first, with ranges or without
abbrev pub listed_rows : Bool → List Entry → List ℕ
listed_rows verbose entries = if verbose then ranges_rows entries else flat_map log_line (rows_of entries)

-- The text is finished entries alone, or has something unfinished behind them, and what was written are the rows of the entries, in the second case
-- behind a line that says so
pub record ListsFront (verbose : Bool) (text : List ℕ) (old new : Option (List ℕ)) : Type 0 where
  pub accepted : HasFront text
  pub finished : (entries : List EntryLines) → IsSpelled text entries → Appends old new (listed_rows verbose (map entry_in entries))
  pub unfinished : (front : List ℕ) (entries : List EntryLines) (stage : Stage) → IsUnfinishedBehind text front entries stage
      → Appends old new (unfinished_line (suc (length entries)) stage ++ listed_rows verbose (map entry_in entries))

-- A list of them was stopped: a front of what is written of such a text was, and nothing of another
pub record StopsFrontRows (verbose : Bool) (text : List ℕ) (old new : Option (List ℕ)) (fault : ShowFault) : Type 0 where
  pub quiet : (HasFront text → ⊥) → new ≡ old
  pub finished : (entries : List EntryLines) → IsSpelled text entries → StopsPrefix 0 (listed_rows verbose (map entry_in entries)) old new fault
  pub unfinished : (front : List ℕ) (entries : List EntryLines) (stage : Stage) → IsUnfinishedBehind text front entries stage
      → StopsPrefix 0 (unfinished_line (suc (length entries)) stage ++ listed_rows verbose (map entry_in entries)) old new fault

-- what a look answers that was stopped so
abbrev pub unseen_by : ShowFault → ReportError
unseen_by (look.Text fault) = Stopped (Session fault)
unseen_by (look.Io fault) = Stopped (Io fault)

-- what was written, by the fault that a look at named files answers
abbrev pub StopsFrontListed : Bool → List ℕ → Option (List ℕ) → Option (List ℕ) → Fault → Type 0
StopsFrontListed verbose text old new (Session fault) = StopsFrontRows verbose text old new (look.Text fault)
StopsFrontListed verbose text old new (Io fault) = StopsFrontRows verbose text old new (look.Io fault)
StopsFrontListed verbose text old new fault = ⊥

-- the list was stopped, and why: a front of it is written
abbrev pub IsFrontCut : Bool → List ℕ → Option (List ℕ) → Option (List ℕ) → ReportError → Type 0
IsFrontCut verbose text old new (Stopped fault) = StopsListing (Unit {0}) text fault × StopsFrontListed verbose text old new fault
IsFrontCut verbose text old new unseen = ⊥

-- Why it is stopped for files of these names: a file may not be opened, and nothing is written; or a front of it is
abbrev pub StopsFrontOf : Names → Type 0 → SystemState → Bool → Option (List ℕ) → Option (List ℕ) → ReportError → Type 0
StopsFrontOf names counted w verbose old new unseen =
    IsUnseenOr (IsNotOpened names counted w unseen) old new (IsFrontCut verbose (held w names.journal) old new unseen)

-- what stands in the row of a marked entry before its ranges
abbrev pub front_at : Bool → ℕ → Mark → List ℕ
front_at verbose n mark =
    if verbose then row_front n mark else decimal n ++ codes " " ++ decimal mark.len ++ codes " " ++ decimal mark.saved

-- its ranges, where they are listed
abbrev pub ranges_if : Bool → List ℕ → Mark → List ℕ
ranges_if verbose text mark = if verbose then places_at text mark else []

-- the row
abbrev pub row_at : Bool → List ℕ → ℕ → Mark → List ℕ
row_at verbose text n mark = front_at verbose n mark ++ ranges_if verbose text mark ++ codes "\n"

-- the rows of marks, from a number on
unfoldable pub rows_at : Bool → List ℕ → ℕ → List Mark → List ℕ
rows_at verbose text n [] = []
rows_at verbose text n (mark ∷ marks) = row_at verbose text n mark ++ rows_at verbose text (suc n) marks
