use Rattle.std.proofs.Common.{arith, sym, ◌∙◌, ◌-◌, length, take, drop, refl}
use Rattle.std.proofs.lemmas.List.{take_rest}
use Rattle.bx_dd.specs.Number.{product_value}
use Rattle.bx_text.specs.private.Number.{factors_of}
use Rattle.bx_text.specs.private.Capped.{capped_value}
use Rattle.bx_text.proofs.NumberLemmas.{none_more}
use Rattle.bx_dd.proofs.NumberLemmas.{factor_more, factor_bad, last_more, last_bad}
use Rattle.bx_dd.proofs.operands.number.product.Goals.{then-byte-eq120+in_ok-factor, else-byte-eq120}
use Rattle.bx_dd.proofs.operands.number.product.Goals as goal

pub returns-in_err-factor : goal.returns-in_err-factor
returns-in_err-factor c =
    let text = c.args.text.now in
    let i = c.loop-i.i in
    let start = c.loop-i.start in
    let bad = factor_bad (capped_value (product_value (factors_of text))) text (take (i - start) (drop start text)) start c.loop-i.value c.loop-i.invariant.all i c.loop-i.invariant.before c.loop-i-test.true
    c.if-byte-eq120.true c.loop-i.invariant.none refl (sym c.factor.ensures ∙ c.in_err-factor.was) in
    c.from_residual.ensures ∙ sym bad

pub loop-i-preserved : goal.loop-i-preserved
loop-i-preserved c =
    let text = c.args.text.now in
    let i = c.loop-i.i in
    let start = c.loop-i.start in
    elim c.if-byte-eq120.branch [
      | then-byte-eq120+in_ok-factor w ↦ record {
        before = omega arith;
        none = λ k from lt e. absurd (omega (arith, from, lt, w.start-is));
        all = rw (w.value-is, w.start-is)
            (factor_more (capped_value (product_value (factors_of text))) text (take (i - start) (drop start text)) start c.loop-i.value c.loop-i.invariant.all i c.loop-i.invariant.before c.loop-i-test.true
            w.if-byte-eq120.true c.loop-i.invariant.none refl w.in_ok-factor.field-0 w.saturating_mul-value.result (sym w.factor.ensures ∙ w.in_ok-factor.was) w.saturating_mul-value.ensures);
      }
      | else-byte-eq120 w ↦ record {
        before = omega (arith, w.start-is);
        none = rw w.start-is (none_more text start i c.loop-i.invariant.none w.if-byte-eq120.false);
        all = rw (w.value-is, w.start-is) c.loop-i.invariant.all;
      }
    ]

pub returns-in_err-factor-2 : goal.returns-in_err-factor-2
returns-in_err-factor-2 c =
    let text = c.args.text.now in
    let start = c.loop-i.start in
    let bad = last_bad (capped_value (product_value (factors_of text))) text (take (length text - start) (drop start text)) start c.loop-i.value c.loop-i.invariant.all
    (λ k from inside. c.loop-i.invariant.none k from (omega (arith, inside))) (take_rest text start) (sym c.factor-2.ensures ∙ c.in_err-factor-2.was) in
    c.from_residual-in_err-factor-2.ensures ∙ sym bad

pub returns : goal.returns
returns c =
    let text = c.args.text.now in
    let start = c.loop-i.start in
    last_more (capped_value (product_value (factors_of text))) text (take (length text - start) (drop start text)) start c.loop-i.value c.loop-i.invariant.all
    (λ k from inside. c.loop-i.invariant.none k from (omega (arith, inside))) (take_rest text start) c.in_ok-factor-2.field-0 c.saturating_mul.result
    (sym c.factor-2.ensures ∙ c.in_ok-factor-2.was) c.saturating_mul.ensures
