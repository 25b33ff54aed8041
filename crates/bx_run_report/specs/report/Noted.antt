-- What the note beside a journal says of the image.
use Rattle.std.specs.Prelude.{◌≡◌, ℕ, true, List, Option, None, Some}
use Rattle.bx_journal_image.specs.Line.{FitsPlaces, image_line}
use Rattle.bx_journal_image.specs.declared.line.form.ImageLine.{ImageLine}
use Rattle.bx_run_report.specs.declared.report.noted.NoteLine.{NoteLine}

-- the line that a note is; none where it is no such line
abbrev pub IsLineIn : List ℕ → Option ImageLine → Type 0
IsLineIn note (Some line) = note ≡ image_line line
IsLineIn note None = (line : ImageLine) → FitsPlaces line → note ≡ image_line line → ⊥

-- what is known is what the note says, if it was read
abbrev pub IsNoteLine : List ℕ → NoteLine → Type 0
IsNoteLine note known = known.is_read ≡ true → IsLineIn note known.line
