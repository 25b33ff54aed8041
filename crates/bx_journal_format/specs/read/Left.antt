-- What a loss of power left behind the first zero of a text, looked at in parts.
use Rattle.std.specs.Prelude.{◌≡◌, ◌&&◌, ◌||◌, ℕ, Bool, false, not, Option, None, Some, List, drop, codes}
use Rattle.std.specs.List.{list_all}
use Rattle.bx_journal_format.specs.Shown.{begins_with, ends_line, has_end, is_left}
use Rattle.bx_journal_format.specs.declared.read.shown.LastLine.{LastLine}
use Rattle.bx_journal_format.specs.declared.read.shown.LastLine.TheVariants.{Other, End}

-- whether these bytes end the last line as an end line
abbrev pub ends_last : LastLine → List ℕ → Bool
ends_last Other text = false
ends_last (End letters) text = begins_with (drop letters (codes "done")) text && ends_line text

-- whether a loss of power may have left these bytes behind the last line: none is of another file, and no end line ends among them
unfoldable pub is_torn : LastLine → List ℕ → Bool
is_torn line text = list_all is_left text && not (ends_last line text || has_end text)

-- whether it may is said by the line that was found and the bytes behind it; where none was found it may not
abbrev pub IsTornAs : Option LastLine → Bool → List ℕ → Type 0
IsTornAs None whole rest = whole ≡ false
IsTornAs (Some line) whole rest = whole ≡ is_torn line rest
