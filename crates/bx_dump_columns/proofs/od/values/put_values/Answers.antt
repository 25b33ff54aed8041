use Rattle.std.proofs.Common.{◌+◌, ◌*◌, take, arith, ap, ◌∙◌}
use Rattle.bx_dump_columns.proofs.OdLemmas.{value_next}
use Rattle.bx_dump_columns.proofs.od.values.put_values.Goals as goal

pub loop-k-init : goal.loop-k-init
loop-k-init c =
    record { used = ap (λ n. (n + 1) * c.put_pieces-first.result) c.field.ensures.value; text = ap (λ n. take ((n + 1) * c.put_pieces-first.result) c.put_pieces-first.new.text) c.field.ensures.value ∙ c.put_pieces-first.ensures.text }

pub loop-k-preserved : goal.loop-k-preserved
loop-k-preserved c =
    let before = c.loop-k.invariant in
    let put = c.put_next-used.ensures in
    let value = c.width-width.ensures.value in
    let next = value_next c.args.kind c.args.endian c.args.bytes.now c.loop-k.text c.put_next-used.new.text c.loop-k.k c.width-width.result c.loop-k.used c.put_next-used.result
    (omega (arith, c.loop-k.auto.text, c.put_pieces-first.auto.text, c.requires.room)) value
    (rw value at c.width-width.ensures.some) (rw value at c.loop-k-test.true) before.used c.put_next-used.auto.text put.value before.text put.text in
    record { used = next.0; text = next.1 }
