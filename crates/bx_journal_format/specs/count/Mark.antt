-- A place in a text behind a whole line, and how the text up to it reads.
use Rattle.std.specs.Prelude.{◌≡◌, ◌≤◌, ℕ, Some, List, [], take, length}
use Rattle.bx_journal_format.specs.Text.{Entry, Between, Ending, Reading, split, start, after_lines}
use Rattle.bx_journal_format.specs.declared.format.version.Version.{Version}

pub record IsMark (text : List ℕ) (n : ℕ) (r : Reading) : Type 0 where
  pub within : n ≤ length text
  pub lines : after_lines start (split (take n text)).lines ≡ Some r
  pub whole : (split (take n text)).rest ≡ []

-- where the newest entry begins, and where its save line ends
pub record HasMarks (text : List ℕ) (entries : List Entry) (v : Version) (e : Entry) (begins saved : ℕ) : Type 0 where
  pub beginning : IsMark text begins (record { entries = entries; stage = Between })
  pub saving : IsMark text saved (record { entries = entries; stage = Ending v e.saved })
  pub order : begins ≤ saved
