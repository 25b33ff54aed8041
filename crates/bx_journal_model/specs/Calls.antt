-- What a session's calls answer.
use Rattle.std.specs.Prelude.{◌≡◌, ℕ, suc, Some, List, [], ◌∷◌, ◌++◌, length, sum, map}
use Rattle.bx_journal_format.specs.Kept.{Run}
use Rattle.bx_journal_model.specs.declared.answers.LogRow.{LogRow}
use Rattle.bx_journal_model.specs.declared.answers.RecoveryOutcome.{RecoveryOutcome}
use Rattle.bx_journal_model.specs.declared.answers.RecoveryOutcome.TheVariants.{Clean, Dropped, Restored}
use Rattle.bx_journal_model.specs.declared.fault.SessionFault.{SessionFault}
use Rattle.bx_journal_model.specs.declared.fault.SessionFault.TheVariants.{Interrupted, LengthDiffers, RedoDamaged, NoMemory, Damaged}
use Rattle.bx_journal_model.specs.Fault.{DeviceFault}
use Rattle.bx_journal_format.specs.Text.{Entry, Stage, Between, Saving, Ending, Reading, IsDamagedAt}
use Rattle.bx_journal_model.specs.Stack.{image_at}

-- a row for each entry, the oldest first
abbrev pub rows_of : List Entry → List LogRow
rows_of [] = []
rows_of (e ∷ entries) = rows_of entries
    ++ record { number = suc (length entries); old_len = e.saved.len; saved = sum (map (λ (run : Run). length run.bytes) e.saved.runs) } ∷ []

-- what was found: `rest` is what follows the last newline
abbrev pub how_of : Reading → List ℕ → RecoveryOutcome
how_of r rest = how_at (suc (length r.entries)) r.stage rest
  where
    how_at : ℕ → Stage → List ℕ → RecoveryOutcome
    how_at n Between [] = Clean
    how_at n Between (b ∷ rest) = Dropped
    how_at n (Saving v s) rest = Dropped
    how_at n (Ending v s) rest = Restored n

-- the newest entry tells a length that the image doesn't have
abbrev pub Differs : List Entry → List ℕ → ℕ → Type 0
Differs [] x expected = ⊥
Differs (e ∷ entries) x expected = (e.after ≡ Some expected) × (length x ≡ expected → ⊥)

-- which fault opening may answer to a reading of the text
abbrev pub OpenFault : Reading → List ℕ → SessionFault → Type 0
OpenFault r x Interrupted = Unit {0}
OpenFault r x (LengthDiffers expected) = Differs r.entries (image_at r.stage x) expected
OpenFault r x (RedoDamaged line) = r.stage ≡ Between
OpenFault r x e = DeviceFault e

-- an interruption leaves the one, each other fault the other
abbrev pub AfterFault : SessionFault → Type 0 → Type 0 → Type 0
AfterFault Interrupted interrupted same = interrupted
AfterFault e interrupted same = same

-- The one line at which a text that isn't accepted is damaged, or a fault that the text doesn't make
abbrev pub ReadFault : List ℕ → SessionFault → Type 0
ReadFault text (Damaged line) = IsDamagedAt text line
ReadFault text NoMemory = Unit {0}
ReadFault text e = ⊥
