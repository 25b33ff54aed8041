use Rattle.std.proofs.Common.{inr, sym, ◌∙◌}
use Rattle.bx_read.proofs.PlainWindowLemmas.{digits_of_read, fault_at_end, half_left, none_left}
use Rattle.bx_read.proofs.WindowLemmas.{not_known}
use Rattle.bx_read.proofs.plain_window.digits.DigitsRead.finish.Goals as goal

pub returns-in-Some : goal.returns-in-Some
returns-in-Some g c = record { exact = λ text is. fault_at_end text c.args.self c.in-Some.fault c.in-Some.is is }

pub returns-then-is_some : goal.returns-then-is_some
returns-then-is_some g c = record {
  exact = λ text is.
      let read = c.args.self in
      let was = digits_of_read text read (not_known read.fault c.in_default.not-Some) is in
      inr (half_left text read.bytes.items read.passed read.last read.half (sym c.is_some.ensures ∙ c.if-is_some.true) was);
}

pub returns : goal.returns
returns g c = record {
  exact = λ text is.
      let read = c.args.self in
      let was = digits_of_read text read (not_known read.fault c.in_default.not-Some) is in
      none_left text read.bytes.items read.passed read.last read.half (sym c.is_some.ensures ∙ c.if-is_some.false) was;
}
