-- Entries that are counted, and not kept.
use Rattle.std.specs.Prelude.{◌≡◌, ◌+◌, ◌++◌, ℕ, Bool, IsTrue, is_some, Option, Some, List, [], length, take}
use Rattle.bx_journal_format.specs.declared.read.classify.Event.{Event}
use Rattle.bx_journal_format.specs.declared.read.classify.Event.TheVariants.{Begun, Saved, Complete, Committed}
use Rattle.bx_journal_format.specs.declared.read.count.Place.{Place}
use Rattle.bx_journal_format.specs.declared.read.count.Place.TheVariants.{Between as BetweenPlace, Saving as SavingPlace, Ending as EndingPlace}
use Rattle.bx_journal_format.specs.declared.read.count.Tally.{Tally}
use Rattle.bx_journal_format.specs.declared.read.window.Passed.{Passed}
use Rattle.bx_journal_format.specs.Text.{Entry, Stage, Between, Saving, Ending, Reading, split, start, after_lines, next}
use Rattle.bx_journal_format.specs.read.Followed.{AreFullSaved}
use Rattle.bx_journal_format.specs.Parsed.{told_by}
use Rattle.bx_journal_format.specs.Finished.{AllTell, IsFinished}

-- a stage without what was saved
abbrev pub place_of : Stage → Place
place_of Between = BetweenPlace
place_of (Saving v s) = SavingPlace v s.len
place_of (Ending v s) = EndingPlace v

-- a reading without what was saved
abbrev pub tally_of : Reading → Tally
tally_of r = record { count = length r.entries; told = told_by r.entries; place = place_of r.stage }

-- a line that isn't the end of an entry that tells no length
abbrev pub TellsLength : Event → Type 0
TellsLength (Committed after) = IsTrue (is_some after)
TellsLength (Begun v len) = Unit {0}
TellsLength (Saved l) = Unit {0}
TellsLength (Complete v) = Unit {0}

-- where a line leads from a reading, seen as a tally: where only entries that tell their lengths are taken, all go on doing so
pub record LeadsTo (only_second : Bool) (r : Reading) (line : List ℕ) (t : Tally) : Type 0 where
  pub reading : Reading
  pub leads : next r line ≡ Some reading
  pub is : tally_of reading ≡ t
  pub tell : IsTrue only_second → AllTell r.entries → AllTell reading.entries

-- the text begins with `count` full saved lines, in an entry of the length at this place; there are none at another place
abbrev pub AreFullAt : Place → List ℕ → ℕ → Type 0
AreFullAt BetweenPlace text count = count ≡ 0
AreFullAt (SavingPlace v len) text count = AreFullSaved len text count
AreFullAt (EndingPlace v) text count = count ≡ 0

-- the text is `count` finished entries alone, and the newest tells this length
pub record IsCounted (text : List ℕ) (count : ℕ) (told : Option ℕ) : Type 0 where
  pub entries : List Entry
  pub finished : IsFinished text entries
  pub counted : count ≡ length entries
  pub told_is : told ≡ told_by entries

-- a text of `lines` whole lines leads to this tally; where only entries that tell their lengths are taken, all of them do
pub record IsTallied (only_second : Bool) (text : List ℕ) (t : Tally) (lines : ℕ) : Type 0 where
  pub reading : Reading
  pub reads : after_lines start (split text).lines ≡ Some reading
  pub whole : (split text).rest ≡ []
  pub many : lines ≡ length (split text).lines
  pub is : tally_of reading ≡ t
  pub tell : IsTrue only_second → AllTell reading.entries

-- the lines at the start of a window that were passed are counted, behind a front of n lines
abbrev pub IsPassed : Bool → List ℕ → ℕ → List ℕ → Passed → Type 0
IsPassed only_second front n window p = IsTallied only_second (front ++ take p.taken window) p.tally (n + p.lines)

-- a text that is counted, with the number of its lines; where only entries that tell their lengths are taken, all of them do
pub record IsCountedAll (only_second : Bool) (text : List ℕ) (count : ℕ) (told : Option ℕ) (lines : ℕ) : Type 0 where
  pub counted : IsCounted text count told
  pub tell : IsTrue only_second → AllTell counted.entries
  pub many : lines ≡ length (split text).lines
