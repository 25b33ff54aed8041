use Rattle.std.proofs.Common.{◌≡◌, ℕ, ◌+◌, ◌-◌, ◌/◌, ◌^◌, ◌<◌, length, drop, arith, refl, ◌∙◌, ◌∷◌}
use Rattle.std.proofs.lemmas.List.{drop_all, take-set, drop-set, length-set}
use Rattle.std.proofs.Math.ListN.{set}
use Rattle.bx_text.proofs.FieldLemmas.{digits_onto-last, digits_onto-more, quotient_below, digits_start, take_shorter, set_parts, one_more}
use Rattle.bx_text.proofs.number.field.put_digits.Goals as goal

pub loop-rest-init : goal.loop-rest-init
loop-rest-init c = record {
  within = omega arith;
  all = c.requires;
  room = rw c.requires (omega (arith, c.ranges.v.fits));
  some = omega arith;
  base = omega arith;
  digit = omega arith;
  text = rw (drop_all (length c.args.bytes.now) c.args.bytes.now (omega arith))
      (digits_start (42 + length c.args.bytes.now) _ _ _ (omega arith));
  front = refl;
}

pub returns-then-rest-eq0-clause-digits : goal.returns-then-rest-eq0-clause-digits
returns-then-rest-eq0-clause-digits c =
    let before = c.loop-rest.invariant in
    let last = digits_onto-last (42 + c.loop-rest.at) (41 + c.loop-rest.at) c.base-base.result c.is_upper-upper.result c.loop-rest.rest
    (drop c.loop-rest.at c.loop-rest.bytes) (omega arith) c.if-rest-eq0.true in
    let parts = set_parts c.loop-rest.bytes (c.loop-rest.at - 1) c.loop-rest.at c.hex_digit.result (omega arith) (omega arith) in
    let front = take_shorter (c.loop-rest.at - 1) c.loop-rest.at c.loop-rest.bytes c.args.bytes.now (omega arith) before.front in
    rw (parts, front, ← c.base-base.ensures.value, ← c.is_upper-upper.ensures, ← before.text, last, c.hex_digit.ensures) refl

pub loop-rest-preserved : goal.loop-rest-preserved
loop-rest-preserved c =
    let before = c.loop-rest.invariant in
    let at : (c.loop-rest.at - 1) + 1 ≡ c.loop-rest.at = omega arith in
    let room : c.loop-rest.rest / c.base-base.result < 8 ^ (c.loop-rest.at - 1) =
    quotient_below c.loop-rest.rest c.base-base.result (c.loop-rest.at - 1) before.base (rw at before.room) in
    let more = digits_onto-more (42 + c.loop-rest.at) (42 + (c.loop-rest.at - 1)) c.base-base.result c.is_upper-upper.result c.loop-rest.rest
    (drop c.loop-rest.at c.loop-rest.bytes) (omega arith) c.if-rest-eq0.false in
    let rest : drop (c.loop-rest.at - 1) (set c.loop-rest.bytes (c.loop-rest.at - 1) c.hex_digit.result) ≡ c.hex_digit.result ∷ drop c.loop-rest.at c.loop-rest.bytes =
    drop-set c.loop-rest.bytes (c.loop-rest.at - 1) c.hex_digit.result (omega arith) ∙ rw at refl in
    record {
      within = omega arith;
      all = omega (arith, length-set {A = ℕ});
      room = room;
      some = one_more (c.loop-rest.at - 1) _ room c.if-rest-eq0.false;
      base = before.base;
      digit = before.digit;
      text = rw (rest, c.hex_digit.ensures, ← more) before.text;
      front = take-set c.loop-rest.bytes (c.loop-rest.at - 1) c.hex_digit.result
          ∙ take_shorter (c.loop-rest.at - 1) c.loop-rest.at c.loop-rest.bytes c.args.bytes.now (omega arith) before.front;
    }
