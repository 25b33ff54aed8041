use Rattle.std.proofs.Common.{◌≡◌, drop}
use Rattle.std.specs.List.{list_all}
use Rattle.bx_text.specs.Ascii.{is_printable}
use Rattle.bx_journal_format.proofs.read.tail.is_short.Given as goal

-- what is left prints if all does
abbrev pub invariant-loop-b : goal.invariant-loop-b
invariant-loop-b l = list_all is_printable (drop l.b-index l.text) ≡ list_all is_printable l.text
