use Rattle.std.proofs.Common.{◌≡◌, ◌-◌, ◌++◌, ap, sym, ◌∙◌, subst, length, take, drop, append_assoc, arith}
use Rattle.std.proofs.lemmas.List.{take_all, take_rest, length-drop}
use Rattle.std.proofs.Math.Seq.{take-add}
use Rattle.bx_read.specs.PlainWindow.{HasReadPlain}
use Rattle.bx_read.specs.private.PlainWindow.{plain_view}
use Rattle.bx_read.proofs.plain_window.digits.DigitsRead.read_window.Goals as goal

pub loop-at-preserved : goal.loop-at-preserved
loop-at-preserved g c =
    let window = c.args.window.now in
    let at = c.loop-at.at in
    let count = c.take_front-at.result in
    let rest = take_rest window at in
    let long : length (take (length window - at) (drop at window)) ≡ length window - at = ap length rest ∙ length-drop at window in
    record {
      within = omega (arith, long, c.take_front-at.ensures.within, c.loop-at.invariant.within);
      few = omega (arith, c.loop-at.invariant.few, c.take_front-at.ensures.count);
      read = λ text is.
          subst (λ t. HasReadPlain t (plain_view c.take_front-at.new.self))
          (append_assoc text (take at window) _ ∙ ap (λ t. text ++ (take at window ++ take count t)) rest ∙ ap (λ t. text ++ t) (sym (take-add at count window)))
          (c.take_front-at.ensures.read (text ++ take at window) (c.loop-at.invariant.read text is));
    }

pub returns-clause-read : goal.returns-clause-read
returns-clause-read g c = λ text is.
    subst (λ t. HasReadPlain (text ++ t) (plain_view c.loop-at.self)) (take_all c.loop-at.at c.args.window.now (omega arith)) (c.loop-at.invariant.read text is)
