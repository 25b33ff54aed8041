use Rattle.std.proofs.Common.{get_or, refl, arith}
use Rattle.bx_patch.proofs.LengthLemmas.{high_digit, low_digit, small_value, digits_more, value_more}
use Rattle.bx_patch.proofs.read.lengths.decimal.Goals as goal

pub overflow_mul-value : goal.overflow_mul-value
overflow_mul-value c =
    let small = small_value c.args.text.now c.loop-c.c-index c.loop-c-test.true c.if-text-gt18.false c.loop-c.invariant.digits in
    omega (arith, small, c.loop-c.invariant.value)

pub overflow_add-value : goal.overflow_add-value
overflow_add-value c =
    let small = small_value c.args.text.now c.loop-c.c-index c.loop-c-test.true c.if-text-gt18.false c.loop-c.invariant.digits in
    omega (arith, small, c.loop-c.invariant.value, c.if-c-gt57.false)

pub loop-c-preserved : goal.loop-c-preserved
loop-c-preserved c =
    let text = c.args.text.now in
    let i = c.loop-c.c-index in
    record {
      digits = digits_more text i (get_or text i 0) c.loop-c-test.true refl c.if-c-lt48.false c.if-c-gt57.false c.loop-c.invariant.digits;
      value = value_more text i (get_or text i 0) c.loop-c.value c.loop-c-test.true refl c.if-c-lt48.false c.if-c-gt57.false c.loop-c.invariant.value;
    }

pub returns-then-c-lt48 : goal.returns-then-c-lt48
returns-then-c-lt48 c = λ numeral few. low_digit c.args.text.now c.loop-c.c-index c.loop-c-test.true c.if-c-lt48.true numeral.1

pub returns-then-c-gt57 : goal.returns-then-c-gt57
returns-then-c-gt57 c = λ numeral few. high_digit c.args.text.now c.loop-c.c-index c.loop-c-test.true c.if-c-gt57.true numeral.1
