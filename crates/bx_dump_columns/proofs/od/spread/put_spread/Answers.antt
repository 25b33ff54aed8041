use Rattle.std.proofs.Common.{◌≡◌, ◌+◌, ◌-◌, ◌*◌, ◌/◌, ◌≤◌, length, arith, ap, ◌∙◌}
use Rattle.std.proofs.Math.Nat.{mul-le-mul_left}
use Rattle.bx_dump_columns.specs.Values.{blanks_from, field_width, width_of}
use Rattle.bx_dump_columns.proofs.SpreadLemmas.{fewer_blanks, none_spread, spread_next}
use Rattle.bx_dump_columns.proofs.od.spread.put_spread.Goals as goal

pub loop-k-preserved : goal.loop-k-preserved
loop-k-preserved c =
    let before = c.loop-k.invariant in
    let W = width_of c.args.kind in
    let F = field_width c.args.kind + 1 in
    let k = c.loop-k.k in
    let pad = c.args.pad in
    let cols = c.args.cols in
    let n = length c.args.bytes.now in
    let width = c.width-width.result in
    let left = c.loop-k.left in
    let rest = c.blanks_from-rest.result in
    let value = c.width-width.ensures.value in
    let pos = rw value at c.width-width.ensures.some in
    let below = rw value at c.loop-k-test.true in
    let place : width * k + width ≡ W * k + W = ap (λ n. n * k + n) value in
    let behind : width * k + width ≡ W * (k + 1) = omega (arith, place) in
    let now : rest ≡ blanks_from pad cols (W * (k + 1)) = c.blanks_from-rest.ensures.value ∙ ap (blanks_from pad cols) behind in
    let further : W * k ≤ W * (k + 1) = omega arith in
    let less : rest ≤ left = rw (before.left, now) (fewer_blanks pad cols (W * k) (W * (k + 1)) c.requires.some further) in
    let more_used : F * (k + 1) ≡ F * k + F = omega arith in
    let count : F * (k + 1) ≤ F * ((n + W - 1) / W) = mul-le-mul_left {m = k + 1} {n = (n + W - 1) / W} F (omega arith) in
    let all : blanks_from pad cols 0 ≤ pad = rw (c.blanks_from-left.ensures.value) at c.blanks_from-left.ensures.most in
    record {
      left = now;
      used = omega (arith, before.used, c.put_behind-used.ensures.value, less, more_used);
      text = spread_next c.args.kind c.args.endian pad cols c.args.bytes.now c.loop-k.text c.put_behind-used.new.text k width c.loop-k.used left rest c.put_behind-used.result
          (omega (arith, before.used, all, count, more_used, c.requires.room, c.loop-k.auto.text)) value pos below before.left c.blanks_from-rest.ensures.value c.put_behind-used.auto.text c.put_behind-used.ensures.value before.text c.put_behind-used.ensures.text;
    }

pub returns-then-pad-eq0-clause-text : goal.returns-then-pad-eq0-clause-text
returns-then-pad-eq0-clause-text c =
    let same = none_spread c.args.kind c.args.endian c.args.cols c.args.bytes.now c.requires.some in
    rw c.if-pad-eq0.true (c.put_values.ensures.text ∙ same)
