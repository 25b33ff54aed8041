-- Entries that are read for the rows of a log, and not kept.
use Rattle.std.specs.Prelude.{◌≡◌, ◌+◌, ℕ, Some, List, [], ◌∷◌, length, map, sum, take}
use Rattle.bx_journal_format.specs.declared.read.classify.Event.{Event}
use Rattle.bx_journal_format.specs.declared.read.classify.Event.TheVariants.{Begun, Saved, Complete, Committed}
use Rattle.bx_journal_format.specs.declared.read.rows.Summed.{Summed}
use Rattle.bx_journal_format.specs.Kept.{Run, Kept}
use Rattle.bx_journal_format.specs.Text.{Entry, Stage, Between, Saving, Ending, Reading, next}
use Rattle.bx_journal_format.specs.read.Event.{tally_behind}
use Rattle.bx_journal_format.specs.count.Tally.{tally_of}

-- how many bytes saved lines have
abbrev pub saved_length : Kept → ℕ
saved_length s = sum (map (λ (run : Run). length run.bytes) s.runs)

-- what the newest of finished entries saved, nothing where there is none
abbrev pub last_saved : List Entry → Kept
last_saved [] = record { len = 0; runs = [] }
last_saved (e ∷ es) = e.saved

-- what the newest entry saved, finished or not
abbrev pub saved_at : List Entry → Stage → Kept
saved_at es Between = last_saved es
saved_at es (Saving v s) = s
saved_at es (Ending v s) = s

-- a reading, of it only a tally is left, and of the newest entry a length and a sum
abbrev pub summed_of : Reading → Summed
summed_of r = record { tally = tally_of r; len = (saved_at r.entries r.stage).len; saved = saved_length (saved_at r.entries r.stage) }

-- where a line leads from a reading, seen as sums
pub record SumsTo (r : Reading) (line : List ℕ) (s : Summed) : Type 0 where
  pub reading : Reading
  pub leads : next r line ≡ Some reading
  pub is : summed_of reading ≡ s

-- the sums with `more` bytes added to the newest entry
abbrev pub with_more : Summed → ℕ → Summed
with_more s more = record { tally = s.tally; len = s.len; saved = s.saved + more }

-- the sums behind a line
abbrev pub summed_behind : Summed → Event → Summed
summed_behind s (Begun v len) = record { tally = tally_behind s.tally (Begun v len); len = len; saved = 0 }
summed_behind s (Saved l) = with_more s (length (take l.count l.bytes))
summed_behind s (Complete v) = record { tally = tally_behind s.tally (Complete v); len = s.len; saved = s.saved }
summed_behind s (Committed after) = record { tally = tally_behind s.tally (Committed after); len = s.len; saved = s.saved }

abbrev pub IsMore : Summed → ℕ → Summed → Type 0
IsMore s more now = now ≡ with_more s more
