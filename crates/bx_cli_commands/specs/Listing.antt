-- The log of a session as text.
use Rattle.std.specs.Prelude.{ℕ, List, Option, ◌++◌, codes, decimal}
use Rattle.bx_journal.specs.ShowFault.TheVariants as look
use Rattle.bx_journal.specs.LogRow.{LogRow}
use Rattle.bx_journal.specs.Steps.{Steps}
use Rattle.bx_journal.specs.Showing.{LookCounts, StopsLog, StopsRows}
use Rattle.bx_journal.specs.ShownSteps.{RefusesSteps, StopsSteps}
use Rattle.bx_journal.specs.ShownText.{StopsShownPatch}
use Rattle.bx_cli_commands.specs.declared.fault.Fault.{Fault}
use Rattle.bx_cli_commands.specs.declared.fault.Fault.TheVariants as of

-- a change's number, the length before it, and how many bytes were saved
abbrev pub log_line : LogRow → List ℕ
log_line row = decimal row.number ++ codes " " ++ decimal row.old_len ++ codes " " ++ decimal row.saved ++ codes "\n"

-- which fault a log with ranges answers: one of a look at the changes of the text
abbrev pub StopsListing : Type 0 → List ℕ → Fault → Type 0
StopsListing faithful text (of.Session fault) = StopsLog faithful text (look.Text fault)
StopsListing faithful text (of.Io fault) = StopsLog faithful text (look.Io fault)
StopsListing faithful text _ = ⊥

-- what was written where it was stopped: as of a look
abbrev pub StopsListed : List ℕ → Option (List ℕ) → Option (List ℕ) → Fault → Type 0
StopsListed text old new (of.Session fault) = StopsRows text old new (look.Text fault)
StopsListed text old new (of.Io fault) = StopsRows text old new (look.Io fault)
StopsListed text old new _ = ⊥

-- how the counts of failed calls of two devices go on: as behind a look's fault
abbrev pub ListCounts : Fault → ℕ → ℕ → ℕ → ℕ → Type 0
ListCounts (of.Session fault) d t d_new t_new = LookCounts (look.Text fault) d t d_new t_new
ListCounts (of.Io fault) d t d_new t_new = LookCounts (look.Io fault) d t d_new t_new
ListCounts _ d t d_new t_new = ⊥

-- which fault a list of steps answers: one of a look at the steps
abbrev pub StopsShowing : Type 0 → List ℕ → Steps → Fault → Type 0
StopsShowing faithful text s (of.Session fault) = StopsSteps faithful text s (look.Text fault)
StopsShowing faithful text s (of.Io fault) = StopsSteps faithful text s (look.Io fault)
StopsShowing faithful text s _ = ⊥

-- what was written where it was stopped: as of a look at the steps
abbrev pub StopsShownList : List ℕ → List ℕ → Steps → Option (List ℕ) → Option (List ℕ) → Fault → Type 0
StopsShownList text image s old new (of.Session fault) = StopsShownPatch text image s old new (look.Text fault)
StopsShownList text image s old new (of.Io fault) = StopsShownPatch text image s old new (look.Io fault)
StopsShownList text image s old new _ = ⊥

-- the fault is of the text and the number of steps: nothing is written before it
abbrev pub RefusesShowing : Fault → Type 0
RefusesShowing (of.Session fault) = RefusesSteps (look.Text fault)
RefusesShowing _ = ⊥
