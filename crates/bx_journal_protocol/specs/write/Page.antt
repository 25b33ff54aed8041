-- A text that is appended in pages.
use Rattle.std.specs.Prelude.{◌≡◌, ℕ, List, ◌++◌, Result, OnOk, flat_map, map}
use Rattle.bx_image.specs.Power.{FadesBehind}
use Rattle.bx_journal_store.specs.declared.store.TextStore.{Ghosts as StoreViews}
use Rattle.bx_text.specs.declared.owned.pieces.Piece.{Piece}
use Rattle.bx_journal_format.specs.DumpLine.{saved_run_line}
use Rattle.bx_journal_format.specs.Entry.{rows, rows_text}
use Rattle.bx_journal_format.specs.Kept.{run_of}
use Rattle.bx_journal_format.specs.Text.{ended}

-- The bytes are what was added to a text and, behind that, what waits in a page.
pub record IsPaged (bytes old new page : List ℕ) : Type 0 where
  pub added : List ℕ
  pub text_is : new ≡ old ++ added
  pub bytes_are : added ++ page ≡ bytes

-- behind the call the text has these bytes at its end, where it is faithful
abbrev pub HasAppended : {T V E : Type 0} → StoreViews T → T → List ℕ → T → Result V E → Type 0
HasAppended t old bytes new result = t.faithful old → OnOk result (t.text new ≡ t.text old ++ bytes)

-- the text fades as it did, with these bytes behind it, where it is faithful
abbrev pub FadesWith : {T : Type 0} → StoreViews T → T → List ℕ → T → Type 0
FadesWith t old bytes new = t.faithful old → FadesBehind (t.text old) bytes (t.survives old) (t.survives new)

-- a saved line with its newline
abbrev pub row_text : ℕ → List ℕ → List ℕ
row_text at bytes = ended (saved_run_line at bytes)

-- the saved lines of a run
abbrev pub run_text : {A : Type 0} → Piece A → List ℕ
run_text run = rows_text (rows (run_of run))

-- the saved lines of all runs
abbrev pub runs_text : {A : Type 0} → List (Piece A) → List ℕ
runs_text runs = rows_text (flat_map rows (map run_of runs))
