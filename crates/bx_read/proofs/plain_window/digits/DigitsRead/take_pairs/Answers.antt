use Rattle.std.proofs.Common.{◌≡◌, ◌*◌, length, take, arith}
use Rattle.std.proofs.lemmas.List.{length-take-le}
use Rattle.bx_read.proofs.PlainWindowLemmas.{digits_of_read, pairs_taken}
use Rattle.bx_read.proofs.WindowLemmas.{no_fault}
use Rattle.bx_read.proofs.plain_window.digits.DigitsRead.take_pairs.Goals as goal

pub returns-in-Ok-clause-read : goal.returns-in-Ok-clause-read
returns-in-Ok-clause-read g c = λ before is.
    let old = c.args.self.now in
    let count = c.put_pairs-count.result in
    let run = take (2 * count) c.args.text.now in
    let none = no_fault old.fault c.is_some.result c.is_some.ensures c.if-is_some.false in
    let whole = no_fault old.half c.is_some-2.result c.is_some-2.ensures c.if-is_some-2.false in
    let long : length run ≡ 2 * count = length-take-le (2 * count) c.args.text.now c.put_pairs-count.ensures.within in
    rw none
    (pairs_taken before old.bytes.items run (take count c.put_pairs-count.new.out) c.extend_from_slice.new.self.items old.half old.passed old.last whole
    (digits_of_read before old none is) c.put_pairs-count.ensures.bytes (omega (arith, long, c.if-count-eq0.false)) c.in-Ok.ensures.items)
