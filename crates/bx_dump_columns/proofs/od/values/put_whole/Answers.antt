use Rattle.std.proofs.Common.{◌≡◌, ◌*◌, length, arith, ap}
use Rattle.bx_dump_columns.specs.Values.{width_of}
use Rattle.bx_dump_columns.specs.declared.od.options.Endian.TheVariants as Endian
use Rattle.bx_dump_columns.proofs.OdLemmas.{value_next, values_fit, whole_value}
use Rattle.bx_dump_columns.proofs.od.values.put_whole.Goals as goal

pub loop-k-preserved : goal.loop-k-preserved
loop-k-preserved c =
    let before = c.loop-k.invariant in
    let put = c.put_exact-used.ensures in
    let value = c.width-width.ensures.value in
    let next = value_next c.args.kind Endian.Little c.args.bytes.now c.loop-k.text c.put_exact-used.new.text c.loop-k.k c.width-width.result c.loop-k.used c.put_exact-used.result
    (omega (arith, values_fit c.args.kind (length c.args.bytes.now) (omega (arith, c.requires.full)), c.loop-k.auto.text, c.requires.room)) value
    (rw value at c.width-width.ensures.some) (rw value at c.loop-k-test.true) before.used c.put_exact-used.auto.text put.value before.text put.text in
    record { used = next.0; text = next.1 }

pub put_exact-used-requires-clause-inside : goal.put_exact-used-requires-clause-inside
put_exact-used-requires-clause-inside c =
    let kind = c.args.kind in
    let W = width_of kind in
    let below = rw (c.width-width.ensures.value, c.requires.full) at c.loop-k-test.true in
    let begin : c.width-width.result * c.loop-k.k ≡ W * c.loop-k.k = ap (λ n. n * c.loop-k.k) c.width-width.ensures.value in
    omega (arith, begin, whole_value kind c.loop-k.k below, c.requires.full)
