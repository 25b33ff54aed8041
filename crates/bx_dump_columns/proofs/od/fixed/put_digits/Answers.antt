use Rattle.std.proofs.Common.{◌≡◌, false, ℕ, ◌+◌, ◌-◌, ◌/◌, ◌^◌, ◌<◌, length, drop, arith, refl, ◌∙◌, ◌∷◌}
use Rattle.std.proofs.lemmas.List.{drop_all, take-set, drop-set, length-set}
use Rattle.std.proofs.Math.ListN.{set}
use Rattle.bx_text.proofs.FieldLemmas.{digits_onto-last, digits_onto-more, digits_start, take_shorter, set_parts}
use Rattle.bx_dump_columns.proofs.OdLemmas.{digits_below, digit_more}
use Rattle.bx_dump_columns.proofs.od.fixed.put_digits.Goals as goal

pub loop-rest-init : goal.loop-rest-init
loop-rest-init c = record {
  within = omega arith;
  all = refl;
  room = c.requires.room;
  some = c.requires.some;
  text = rw (drop_all (length c.args.field.now) c.args.field.now (omega arith))
      (digits_start (64 - length c.args.field.now + length c.args.field.now) _ _ _ (omega (arith, c.requires.few)));
  front = refl;
}

pub returns-then-rest-eq0-clause-digits : goal.returns-then-rest-eq0-clause-digits
returns-then-rest-eq0-clause-digits c =
    let before = c.loop-rest.invariant in
    let n = length c.args.field.now in
    let last = digits_onto-last (64 - n + c.loop-rest.at) (64 - n + (c.loop-rest.at - 1)) c.args.base false c.loop-rest.rest
    (drop c.loop-rest.at c.loop-rest.field) (omega (arith, before.some)) c.if-rest-eq0.true in
    let parts = set_parts c.loop-rest.field (c.loop-rest.at - 1) c.loop-rest.at c.hex_digit.result (omega (arith, before.some)) before.within in
    let front = take_shorter (c.loop-rest.at - 1) c.loop-rest.at c.loop-rest.field c.args.field.now (omega arith) before.front in
    rw (parts, front, ← before.text, last, c.hex_digit.ensures) refl

pub loop-rest-preserved : goal.loop-rest-preserved
loop-rest-preserved c =
    let before = c.loop-rest.invariant in
    let n = length c.args.field.now in
    let base = c.args.base in
    let at : (c.loop-rest.at - 1) + 1 ≡ c.loop-rest.at = omega (arith, before.some) in
    let room : c.loop-rest.rest / base < base ^ (c.loop-rest.at - 1) = digits_below c.loop-rest.rest base (c.loop-rest.at - 1) c.requires.least (rw at before.room) in
    let more = digits_onto-more (64 - n + c.loop-rest.at) (64 - n + (c.loop-rest.at - 1)) base false c.loop-rest.rest
    (drop c.loop-rest.at c.loop-rest.field) (omega (arith, before.some)) c.if-rest-eq0.false in
    let rest : drop (c.loop-rest.at - 1) (set c.loop-rest.field (c.loop-rest.at - 1) c.hex_digit.result) ≡ c.hex_digit.result ∷ drop c.loop-rest.at c.loop-rest.field =
    drop-set c.loop-rest.field (c.loop-rest.at - 1) c.hex_digit.result (omega (arith, before.some, before.within)) ∙ rw at refl in
    record {
      within = omega (arith, length-set {A = ℕ}, before.within);
      all = length-set c.loop-rest.field (c.loop-rest.at - 1) c.hex_digit.result ∙ before.all;
      room = room;
      some = digit_more base (c.loop-rest.at - 1) _ room c.if-rest-eq0.false;
      text = rw (rest, c.hex_digit.ensures, ← more) before.text;
      front = take-set c.loop-rest.field (c.loop-rest.at - 1) c.hex_digit.result
          ∙ take_shorter (c.loop-rest.at - 1) c.loop-rest.at c.loop-rest.field c.args.field.now (omega arith) before.front;
    }
