use Rattle.std.proofs.Common.{inr, sym, ◌∙◌}
use Rattle.bx_read.proofs.PlainWindowLemmas.{digits_of_read, bad_byte}
use Rattle.bx_read.proofs.WindowLemmas.{no_fault}
use Rattle.bx_read.proofs.plain_window.digits.DigitsRead.take_byte.Goals as goal

pub returns-then-not-is_space-clause-read : goal.returns-then-not-is_space-clause-read
returns-then-not-is_space-clause-read g c = λ text is.
    let old = c.args.self.now in
    let none = no_fault old.fault c.is_some.result c.is_some.ensures c.if-is_some.false in
    let other = sym c.is_digit.ensures ∙ c.if-is_digit.false in
    let apart = sym c.is_space.ensures ∙ c.if-not-is_space.true in
    inr (bad_byte text old.bytes.items old.half old.passed old.last c.args.byte (digits_of_read text old none is) other apart)
