use Rattle.std.proofs.Common.{◌+◌, ◌-◌, ◌*◌, ◌≤◌, length, drop, arith, ◌∙◌}
use Rattle.std.proofs.lemmas.List.{length-drop, length-take-le}
use Rattle.bx_dump_columns.proofs.OdPieces.{line_room, piece_next}
use Rattle.bx_dump_columns.proofs.od.values.put_pieces.Goals as goal

pub slice_bounds-put_full-count : goal.slice_bounds-put_full-count
slice_bounds-put_full-count c =
    let room : 80 * (c.loop-k.k + 1) ≤ length c.args.text.now = omega (arith, c.loop-k-test.true, c.min-count.ensures) in
    omega (arith, room, c.loop-k.auto.text, line_room c.args.kind c.loop-k.k c.loop-k.used c.loop-k.invariant.used)

pub slice_bounds-put_full-start : goal.slice_bounds-put_full-start
slice_bounds-put_full-start c = slice_bounds-put_full-count c

pub put_full-used-requires : goal.put_full-used-requires
put_full-used-requires c =
    let used = c.loop-k.used in
    let text = c.loop-k.text in
    let room : 80 * (c.loop-k.k + 1) ≤ length c.args.text.now = omega (arith, c.loop-k-test.true, c.min-count.ensures) in
    let before = line_room c.args.kind c.loop-k.k used c.loop-k.invariant.used in
    record { room = omega (arith, room, c.loop-k.auto.text, before, length-take-le (length text - used) (drop used text) (omega (arith, length-drop used text)), length-drop used text) }

pub loop-k-preserved : goal.loop-k-preserved
loop-k-preserved c =
    let k = c.loop-k.k in
    let before = c.loop-k.invariant in
    let put = c.put_full-used.ensures in
    let room : 80 * (k + 1) ≤ length c.args.text.now = omega (arith, c.loop-k-test.true, c.min-count.ensures) in
    let next = piece_next c.args.kind c.args.endian c.args.bytes.now c.loop-k.text c.put_full-used.new.text k c.loop-k.used c.put_full-used.result
    (omega (arith, c.loop-k-test.true, c.min-count.ensures)) (omega (arith, room, c.loop-k.auto.text)) before.used put.value c.put_full-used.auto.text before.text
    (put.text ∙ c.lowest_first-piece.ensures) in
    record { used = next.0; text = next.1 }
