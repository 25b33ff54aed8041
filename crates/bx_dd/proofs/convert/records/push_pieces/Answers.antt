use Rattle.std.proofs.Common.{◌++◌, ◌+◌, ◌-◌, take, drop, arith}
use Rattle.bx_dd.specs.declared.form.Shape.TheVariants.{Unblock}
use Rattle.bx_dd.proofs.RecordsLemmas.{piece_taken}
use Rattle.bx_dd.proofs.FlowLemmas.{piece_rest, stops_more}
use Rattle.bx_dd.proofs.convert.records.push_pieces.Goals as goal

pub loop-done-preserved : goal.loop-done-preserved
loop-done-preserved g c = record {
  inside = omega arith;
  room = c.in-Ok.ensures.within;
  space = omega (arith, c.in-Ok.ensures.space, c.loop-done.invariant.space);
  grows = omega (arith, c.in-Ok.ensures.grows, c.loop-done.invariant.grows);
  so_far = λ tail z start flows.
      rw (piece_taken z c.args.bytes.now c.loop-done.done c.min-n.result (c.loop-done.done + c.min-n.result - c.loop-done.done) (omega arith))
      at (c.in-Ok.ensures.ok tail (z ++ take c.loop-done.done c.args.bytes.now) start (c.loop-done.invariant.so_far tail z start flows));
}

pub returns-in-Err-clause-err : goal.returns-in-Err-clause-err
returns-in-Err-clause-err g c tail z start flows =
    let d = c.loop-done.done in
    let n = c.min-n.result in
    let bytes = c.args.bytes.now in
    stops_more Unblock c.args.size start _ ((z ++ take d bytes) ++ take (d + n - d) (drop d bytes)) (drop (d + n) bytes) (z ++ bytes) c.in-Err.fault
    (piece_rest z bytes d n (d + n - d) (omega arith)) (c.in-Err.ensures.err tail (z ++ take d bytes) start (c.loop-done.invariant.so_far tail z start flows))
