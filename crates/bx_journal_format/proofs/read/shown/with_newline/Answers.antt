use Rattle.bx_journal_format.proofs.ZeroLemmas.{newline_after_other, newline_begins, newline_ends}
use Rattle.bx_journal_format.proofs.read.shown.with_newline.Goals as goal

pub returns-then-letters-ge4 : goal.returns-then-letters-ge4
returns-then-letters-ge4 c rest = rw c.in-End.is (newline_ends c.in-End.letters rest c.if-letters-ge4.true)

pub returns-else-letters-ge4 : goal.returns-else-letters-ge4
returns-else-letters-ge4 c rest = rw c.in-End.is (newline_begins c.in-End.letters rest c.if-letters-ge4.false)

pub returns-in_default : goal.returns-in_default
returns-in_default c rest = rw c.in_default.is (newline_after_other rest)
