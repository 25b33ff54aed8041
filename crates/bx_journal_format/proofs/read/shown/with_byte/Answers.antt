use Rattle.bx_journal_format.proofs.ZeroLemmas.{next_letter, other_letter, printing_after_other, printing_after_word}
use Rattle.bx_journal_format.proofs.read.shown.with_byte.Goals as goal

pub returns-then-letters-ge4 : goal.returns-then-letters-ge4
returns-then-letters-ge4 c rest = rw c.in-End.is (printing_after_word c.in-End.letters c.args.b rest c.if-letters-ge4.true c.requires.0 c.requires.1)

pub returns-then-letters-b : goal.returns-then-letters-b
returns-then-letters-b c rest = rw c.in-End.is (other_letter c.in-End.letters c.args.b rest c.if-letters-ge4.false c.if-letters-b.true c.requires.0 c.requires.1)

pub returns-in-Other : goal.returns-in-Other
returns-in-Other c rest = rw c.in-Other.is (printing_after_other c.args.b rest c.requires.0 c.requires.1)

pub returns-else-letters-b : goal.returns-else-letters-b
returns-else-letters-b c rest = rw c.in-End.is (next_letter c.in-End.letters c.args.b rest c.if-letters-ge4.false c.if-letters-b.false)
