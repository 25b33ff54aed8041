-- What lemmas on Unfinished say.
use Rattle.std.specs.Prelude.{◌≡◌, ◌<◌, ℕ, false, None, List, length}
use Rattle.bx_image.specs.Change.{byte_in}
use Rattle.bx_journal_format.specs.Kept.{Kept}
use Rattle.bx_journal_image.specs.declared.line.ranges.Range.{Range}
use Rattle.bx_journal_image.specs.Blocks.{is_in_one}

-- each address that a record names below its length is in one of the ranges
abbrev pub AreAllIn : Kept → List Range → Type 0
AreAllIn s ranges = (a : ℕ) → a < s.len → is_in_one ranges a ≡ false → byte_in s.runs a ≡ None
