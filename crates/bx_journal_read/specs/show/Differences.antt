-- What a look at a change writes of its saved lines: each made from the bytes that it gives, and beside an image what that has there now before it.
use Rattle.std.specs.Prelude.{ℕ, Option, None, Some, List, [], ◌∷◌, ◌++◌, length, take, drop, flat_map, codes, ◌≡◌, ◌-◌, ◌<◌, ◌≤◌}
use Rattle.bx_journal_format.specs.DumpLine.{saved_run_line}
use Rattle.bx_journal_format.specs.Kept.{Run}
use Rattle.bx_journal_format.specs.Line.{saved_in}
use Rattle.bx_journal_format.specs.Text.{ended, split}
use Rattle.std.specs.Io.KnownBytes.{Appends}
use Rattle.bx_journal_read.specs.declared.show.differences.Compared.{Compared}

-- xxd's default line for bytes at an address behind a sign; nothing where there are no bytes
abbrev pub signed_line : List ℕ → ℕ → List ℕ → List ℕ
signed_line sign at [] = []
signed_line sign at (b ∷ bytes) = sign ++ ended (saved_run_line at (b ∷ bytes))

-- the line of a run; nothing without one
abbrev pub line_made : Option Run → List ℕ
line_made None = []
line_made (Some run) = signed_line [] run.at run.bytes

-- a saved line, made from the bytes that it gives in an entry of this length
abbrev pub made_line : ℕ → List ℕ → List ℕ
made_line len line = line_made (saved_in len line)

-- saved lines, each made from its bytes
abbrev pub made_text : ℕ → List (List ℕ) → List ℕ
made_text len lines = flat_map (made_line len) lines

-- what the image has at the addresses of a run, as far as it has these, and the run's own line; nothing without one
abbrev pub lines_beside : List ℕ → Option Run → List ℕ
lines_beside image None = []
lines_beside image (Some run) =
    signed_line (codes "-") run.at (take (length run.bytes) (drop run.at image)) ++ signed_line (codes "+") run.at run.bytes

-- a saved line beside the image, in an entry of this length
abbrev pub diff_line : List ℕ → ℕ → List ℕ → List ℕ
diff_line image len line = lines_beside image (saved_in len line)

-- saved lines beside the image
abbrev pub diff_text : List ℕ → ℕ → List (List ℕ) → List ℕ
diff_text image len lines = flat_map (diff_line image len) lines

-- the first bytes of a window are whole lines, and what is shown of each was added
pub record AreAdded (show : List ℕ → List ℕ) (window : List ℕ) (taken : ℕ) (old new : List ℕ) : Type 0 where
  pub whole : (split (take taken window)).rest ≡ []
  pub added : new ≡ old ++ flat_map show (split (take taken window)).lines

-- what is shown of the lines of a stored text from one place to another
abbrev pub shown_between : (List ℕ → List ℕ) → List ℕ → ℕ → ℕ → List ℕ
shown_between show stored from to = flat_map show (split (take (to - from) (drop from stored))).lines

-- a stored text has whole lines from one place to another, and what is shown of each was written
pub record AreWritten (show : List ℕ → List ℕ) (stored : List ℕ) (from to : ℕ) (old new : Option (List ℕ)) : Type 0 where
  pub whole : (split (take (to - from) (drop from stored))).rest ≡ []
  pub written : Appends old new (flat_map show (split (take (to - from) (drop from stored))).lines)

-- reading went on, and no further than a limit
abbrev pub HasGoneOn : ℕ → Compared → Compared → Type 0
HasGoneOn limit old new = (old.at < new.at) × (new.at ≤ limit)
