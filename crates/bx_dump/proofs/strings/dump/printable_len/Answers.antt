use Rattle.std.proofs.Common.{◌≡◌, ◌+◌, ◌≤◌, length, drop, arith, sym, ap, ◌∙◌}
use Rattle.std.proofs.lemmas.List.{length-drop}
use Rattle.bx_dump.proofs.QuietLemmas.{count_stops, count_goes}
use Rattle.bx_dump.proofs.strings.dump.printable_len.Goals as goal

pub returns-then-more-lt16-clause-value : goal.returns-then-more-lt16-clause-value
returns-then-more-lt16-clause-value c =
    let bytes = c.args.bytes.now in
    let done = c.loop-done.done in
    let before = c.loop-done.invariant in
    let wide : 16 ≤ length (drop done bytes) = omega (arith, length-drop done bytes, c.loop-done-test.true) in
    sym (before.value ∙ ap (λ n. done + n) (count_stops 16 done c.printing_in-more.result bytes wide c.printing_in-more.ensures.value (omega (arith, c.if-more-lt16.true))))

pub loop-done-preserved : goal.loop-done-preserved
loop-done-preserved c =
    let bytes = c.args.bytes.now in
    let done = c.loop-done.done in
    let more = c.printing_in-more.result in
    let before = c.loop-done.invariant in
    let wide : 16 ≤ length (drop done bytes) = omega (arith, length-drop done bytes, c.loop-done-test.true) in
    let most = c.printing_in-more.ensures.most in
    let whole : more ≡ 16 = omega (arith, most, c.if-more-lt16.false) in
    record {
      inside = omega (arith, most, before.inside, c.loop-done-test.true);
      value = before.value ∙ ap (λ n. done + n) (count_goes 16 done more bytes wide c.printing_in-more.ensures.value whole) ∙ omega arith;
    }
