use Rattle.std.proofs.Common.{◌++◌, ap, sym, ◌∙◌, subst, take, append_assoc, arith}
use Rattle.std.proofs.lemmas.List.{take_more}
use Rattle.bx_read.specs.PlainWindow.{HasReadPlain}
use Rattle.bx_read.specs.private.PlainWindow.{plain_view}
use Rattle.bx_read.proofs.plain_window.digits.DigitsRead.take_front.Goals as goal

pub returns-clause-read : goal.returns-clause-read
returns-clause-read g c = λ before is.
    let text = c.args.text.now in
    let pairs = c.take_pairs-pairs.result in
    subst (λ t. HasReadPlain t (plain_view c.take_byte.new.self))
    (append_assoc before (take pairs text) _ ∙ ap (λ t. before ++ t) (sym (take_more text pairs 0 (omega arith))))
    (c.take_byte.ensures.read (before ++ take pairs text) (c.take_pairs-pairs.ensures.read before is))
