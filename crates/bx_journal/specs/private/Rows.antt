-- The rows of a log, from a text that is read in windows.
use Rattle.std.specs.Prelude.{◌≡◌, ◌≤◌, ℕ, Some, List, [], ◌∷◌, ◌++◌, length, take, Vec, Result, IfOk, IfErr}
use Rattle.bx_image.specs.Power.{NoMore}
use Rattle.bx_journal_store.specs.declared.store.TextStore.{Ghosts as StoreViews}
use Rattle.bx_journal_format.specs.declared.read.count.Place.{Place}
use Rattle.bx_journal_format.specs.declared.read.count.Place.TheVariants.{Between as BetweenPlace, Saving as SavingPlace, Ending as EndingPlace}
use Rattle.bx_journal_format.specs.declared.read.rows.Summed.{Summed}
use Rattle.bx_journal_format.specs.count.Rows.{summed_of}
use Rattle.bx_journal_format.specs.Finished.{IsFinished}
use Rattle.bx_journal_format.specs.Text.{Entry, Reading, split, start, after_lines}
use Rattle.bx_journal_model.specs.declared.answers.LogRow.{LogRow}
use Rattle.bx_journal.specs.declared.session.log.windows.Listed.{Listed}
use Rattle.bx_journal_model.specs.declared.fault.SessionFault.{SessionFault}
use Rattle.bx_journal_model.specs.Calls.{rows_of}
use Rattle.bx_journal_model.specs.Undoing.{AgainFault}
use Rattle.bx_journal_model.specs.Looking.{LooksAt}

-- the row of the entry that the last line ended, where the text stands at such a place
abbrev pub ended_row : Place → Summed → List LogRow
ended_row BetweenPlace s = record { number = s.tally.count; old_len = s.len; saved = s.saved } ∷ []
ended_row (SavingPlace v len) s = []
ended_row (EndingPlace v) s = []

-- a text of whole lines leads to these sums, and its finished entries have these rows
pub record IsListed (text : List ℕ) (s : Summed) (rows : List LogRow) : Type 0 where
  pub reading : Reading
  pub reads : after_lines start (split text).lines ≡ Some reading
  pub whole : (split text).rest ≡ []
  pub is : summed_of reading ≡ s
  pub rows_are : rows ≡ rows_of reading.entries

-- the whole lines at the start of a window lead from sums and rows to others
pub record IsListedIn (window : List ℕ) (from : Summed) (old new : List LogRow) (l : Listed) : Type 0 where
  pub leads : (front : List ℕ) → IsListed front from old → IsListed (front ++ take l.taken window) l.sums new
  pub within : l.taken ≤ length window

-- the rows of `count` finished entries alone: the store's, where that is faithful
pub record AreRowsOf (faithful : Type 0) (stored : List ℕ) (rows : List LogRow) (count : ℕ) : Type 0 where
  pub text : List ℕ
  pub is : faithful → stored ≡ text
  pub entries : List Entry
  pub finished : IsFinished text entries
  pub counted : length entries ≡ count
  pub rows_are : rows ≡ rows_of entries

-- A call that looks for the rows of `count` finished entries alone: it answers them, or why the text isn't that
pub record FindsRows {T A : Type 0} (t : StoreViews T) (count : ℕ) (result : Result (Vec LogRow A) SessionFault) (old new : T) : Type 0 where
  pub rows : IfOk result (λ rows. AreRowsOf (t.faithful old) (t.text old) rows.items count)
  pub fault : IfErr result (AgainFault (t.faithful old) (t.text old) count)
  pub looks : LooksAt t.faithful t.text t.failures result old new
  pub found_before : t.faithful old → NoMore (t.survives old) (t.survives new)
