use Rattle.std.proofs.Common.{◌+◌, ◌*◌, ◌^◌, ◌<◌, get_or, sym, ◌∙◌, arith}
use Rattle.bx_journal_format.proofs.Inverse.{digit_of}
use Rattle.bx_journal_format.proofs.DigitLoop.{digit_on, digit_stops, digits_end, digit_fits, digit_bound}
use Rattle.bx_journal_image.proofs.line.form.number.Goals as goal

pub returns-in_default-clause-value : goal.returns-in_default-clause-value
returns-in_default-clause-value c = sym (digit_stops c.args.text.now c.loop-c.c-index c.loop-c.n (omega arith) (sym c.in_default.ensures)) ∙ c.loop-c.invariant.0

pub overflow_mul-n : goal.overflow_mul-n
overflow_mul-n c =
    let bound : c.loop-c.n * 16 + 0 < 2 ^ 64 = digit_bound c.loop-c.c-index c.loop-c.n 0 c.loop-c.invariant.1 (omega arith) (omega arith) in
    omega (arith, bound)

pub overflow_add-n : goal.overflow_add-n
overflow_add-n c =
    let small : c.in-Some.d < 16 = (digit_of (get_or c.args.text.now c.loop-c.c-index 0) c.in-Some.d (sym c.in-Some.ensures)).0 in
    let bound : c.loop-c.n * 16 + c.in-Some.d < 2 ^ 64 = digit_bound c.loop-c.c-index c.loop-c.n c.in-Some.d c.loop-c.invariant.1 small (omega arith) in
    omega (arith, bound)

pub loop-c-preserved : goal.loop-c-preserved
loop-c-preserved c =
    let small : c.in-Some.d < 16 = (digit_of (get_or c.args.text.now c.loop-c.c-index 0) c.in-Some.d (sym c.in-Some.ensures)).0 in (
      sym (digit_on c.args.text.now c.loop-c.c-index c.loop-c.n c.in-Some.d (omega arith) (sym c.in-Some.ensures)) ∙ c.loop-c.invariant.0,
      digit_fits c.loop-c.c-index c.loop-c.n c.in-Some.d c.loop-c.invariant.1 small,
    )

pub returns-clause-value : goal.returns-clause-value
returns-clause-value c = sym (digits_end c.args.text.now c.loop-c.c-index c.loop-c.n (omega arith)) ∙ c.loop-c.invariant.0
