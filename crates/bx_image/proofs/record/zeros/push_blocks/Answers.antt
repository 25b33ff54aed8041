use Rattle.std.proofs.Common.{◌≡◌, ◌+◌, ◌-◌, ◌<◌, ◌≤◌, ◌∙◌, ◌||◌, ℕ, min, ap, sym, subst, arith, slice_index}
use Rattle.bx_image.specs.private.Spans.{are_over, is_between, HasAllButZero}
use Rattle.bx_image.proofs.Devices.{GoesOn_then}
use Rattle.bx_image.proofs.SpanLemmas.{are_over-with_span}
use Rattle.bx_image.proofs.Survivors.{NoMore_then}
use Rattle.bx_image.proofs.ZeroLemmas.{all_added, block_left, ended_over, within_ended}
use Rattle.bx_image.proofs.record.zeros.push_blocks.Goals as goal

pub loop-at-preserved-in_ok-push : goal.loop-at-preserved-in_ok-push
loop-at-preserved-in_ok-push g c =
    let inv = c.loop-at.invariant in
    let run = c.in_ok-has_zeros.ensures in
    let at = c.loop-at.at in
    let n = c.min.result in
    let size : at + n - at ≡ n = omega arith in
    record {
      over = λ faithful i.
          let x = g.D.Device.image c.args.device.now in
          let now : g.D.Device.faithful c.loop-at.device = inv.goes_on.faith.1 faithful in
          subst (HasAllButZero x c.args.base (at + n) i (are_over c.args.spans.now.items i)) (sym (ended_over c.loop-at.spans.items c.push.new.spans.items c.loop-at.from at (at + n) i c.in_ok-push.ensures))
          (block_left x c.args.base at (at + n) i (are_over c.args.spans.now.items i) (are_over c.loop-at.spans.items i || is_between c.loop-at.from at i) inv.begun (omega arith)
          (λ low high. ap (λ y. slice_index y i) (sym (inv.image faithful)) ∙ run.zeros now c.if-branch.true i low (omega (arith, high, size))) (inv.over faithful i));
      within = within_ended c.args.len c.loop-at.from at c.loop-at.spans.items c.push.new.spans.items c.in_ok-push.ensures inv.within inv.short;
      order = omega arith;
      begun = omega (arith, inv.begun);
      short = λ less. omega (arith, less);
      most = λ less. omega (arith, c.min.ensures, c.loop-at-test.true);
      window = omega (arith, inv.window, run.window);
      image = λ faithful. run.image (inv.goes_on.faith.1 faithful) ∙ inv.image faithful;
      survives = λ faithful. NoMore_then _ _ _ (inv.survives faithful) (run.survives (inv.goes_on.faith.1 faithful));
      goes_on = GoesOn_then _ _ _ _ _ _ _ inv.goes_on run.goes_on;
    }

pub returns-clause-over : goal.returns-clause-over
returns-clause-over g c faithful =
    let inv = c.loop-at.invariant in
    let x = g.D.Device.image c.args.device.now in
    all_added x c.args.base c.loop-at.at c.args.len c.args.spans.now.items c.push-2.new.spans.items c.loop-at-test.false inv.most
    (λ i. subst (HasAllButZero x c.args.base c.loop-at.at i (are_over c.args.spans.now.items i)) (sym (ap (λ ss. are_over ss i) c.in_ok-push-2.ensures ∙ are_over-with_span c.loop-at.from c.loop-at.at c.loop-at.spans.items i)) (inv.over faithful i)) inv.begun

pub returns-clause-within : goal.returns-clause-within
returns-clause-within g c =
    let inv = c.loop-at.invariant in
    within_ended c.args.len c.loop-at.from c.loop-at.at c.loop-at.spans.items c.push-2.new.spans.items c.in_ok-push-2.ensures inv.within inv.short
