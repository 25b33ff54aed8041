-- What a look at the next undos, or redos, of a text writes: the steps, and behind one that is a patch its last line.
use Rattle.std.specs.Prelude.{◌≡◌, ◌≤◌, ℕ, suc, Option, List, [], ◌++◌, length, if◌then◌else◌, codes}
use Rattle.std.specs.Io.KnownBytes.{Appends}
use Rattle.bx_journal_format.specs.Spelled.{EntryLines, IsSpelled}
use Rattle.bx_journal_format.specs.Text.{Stage}
use Rattle.bx_journal_read.specs.declared.show.fault.ShowFault.{ShowFault}
use Rattle.bx_journal_read.specs.declared.show.way.Steps.{Steps}
use Rattle.bx_journal_read.specs.declared.show.way.Direction.TheVariants.{Undo}
use Rattle.bx_journal_read.specs.show.ShownSteps.{HasFront, IsUnfinishedBehind, shown_steps, shows_patch, unfinished_line}
use Rattle.bx_journal_read.specs.show.Stopping.{StopsPrefix}

-- the last line of steps that are shown as a patch
abbrev pub last_line : Steps → List ℕ
last_line s = if shows_patch s then codes "end\n" else []

-- the steps that are asked for, and that line
abbrev pub shown_patch : Steps → List ℕ → List EntryLines → List ℕ
shown_patch s image entries = shown_steps s image entries ++ last_line s

-- There were as many entries as were asked for, and behind a line or none this was written of them
pub record HasShownText (s : Steps) (image : List ℕ) (entries : List EntryLines) (line : List ℕ) (old new : Option (List ℕ)) : Type 0 where
  pub enough : s.count ≤ length entries
  pub written : Appends old new (line ++ shown_patch s image entries)

-- The text is finished entries alone, or has something unfinished behind them, and this was written of the one, and of the other
pub record ShowsText (text image : List ℕ) (s : Steps) (old new : Option (List ℕ)) : Type 0 where
  pub accepted : HasFront text
  pub finished : (entries : List EntryLines) → IsSpelled text entries → HasShownText s image entries [] old new
  pub unfinished : (front : List ℕ) (entries : List EntryLines) (stage : Stage) → IsUnfinishedBehind text front entries stage
      → (s.way ≡ Undo) × HasShownText s image entries (unfinished_line (suc (length entries)) stage) old new

-- A look was stopped: a front of what is written of such a text was, and nothing of another
pub record StopsShownPatch (text image : List ℕ) (s : Steps) (old new : Option (List ℕ)) (fault : ShowFault) : Type 0 where
  pub quiet : (HasFront text → ⊥) → new ≡ old
  pub finished : (entries : List EntryLines) → IsSpelled text entries → StopsPrefix 0 (shown_patch s image entries) old new fault
  pub unfinished : (front : List ℕ) (entries : List EntryLines) (stage : Stage) → IsUnfinishedBehind text front entries stage
      → StopsPrefix 0 (unfinished_line (suc (length entries)) stage ++ shown_patch s image entries) old new fault
