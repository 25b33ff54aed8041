use Rattle.bx_read.proofs.PlainWindowLemmas.{digits_of_read, second_digit, digit_not_newline, half_is_digit}
use Rattle.bx_read.proofs.plain_window.digits.DigitsRead.take_digit.Goals as goal

pub returns-in-Ok-clause-read : goal.returns-in-Ok-clause-read
returns-in-Ok-clause-read g c = λ text is.
    let old = c.args.self.now in
    let was = digits_of_read text old c.requires.sound is in
    let first = half_is_digit old.half c.in-Some.high c.in-Some.is old.digit in
    rw c.requires.sound
    (second_digit text old.bytes.items old.half old.passed old.last c.args.digit was c.requires.digit (digit_not_newline c.args.digit c.requires.digit)
    c.in-Some.high c.pair.result c.push.new.self.items c.in-Some.is first c.pair.ensures c.in-Ok.ensures.items)
