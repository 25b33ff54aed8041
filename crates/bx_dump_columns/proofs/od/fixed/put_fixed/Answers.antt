use Rattle.std.proofs.Common.{◌≡◌, ◌-◌, ◌+◌, refl, ◌∙◌, arith, length}
use Rattle.std.proofs.lemmas.List.{length-set}
use Rattle.bx_dump_columns.proofs.OdFixed.{based_step, based_start}
use Rattle.bx_dump_columns.proofs.od.fixed.put_fixed.Goals as goal

pub loop-i-init : goal.loop-i-init
loop-i-init c =
    let n = length c.args.field.now in
    let none : n - 0 ≡ n = omega arith in
    record {
      all = refl;
      text = rw none (based_start c.args.base c.requires.least c.args.field.now n c.args.v refl (omega (arith, c.requires.few)) c.requires.some c.requires.room);
    }

pub loop-i-preserved : goal.loop-i-preserved
loop-i-preserved c =
    let before = c.loop-i.invariant in
    let n = length c.args.field.now in
    let step = based_step c.args.base (n - c.loop-i.i) (n - 1 - c.loop-i.i) c.loop-i.rest c.loop-i.field (omega arith) (omega (arith, before.all)) in
    let place : n - (c.loop-i.i + 1) ≡ n - 1 - c.loop-i.i = omega arith in
    record {
      all = length-set _ _ _ ∙ before.all;
      text = rw (place, c.hex_digit.ensures) (step ∙ before.text);
    }

pub returns : goal.returns
returns c =
    let z : length c.args.field.now - c.loop-i.i ≡ 0 = omega arith in
    rw z at c.loop-i.invariant.text
