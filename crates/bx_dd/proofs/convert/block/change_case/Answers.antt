use Rattle.std.proofs.Common.{◌<◌, length, sym, get_or, arith}
use Rattle.std.proofs.lemmas.Grind.{get_or_default_zero}
use Rattle.std.specs.Char.{to_ascii_uppercase, to_ascii_lowercase}
use Rattle.std.proofs.lemmas.List.Edits.{map_over_more}
use Rattle.bx_dd.proofs.convert.block.change_case.Goals as goal

pub loop-byte-preserved : goal.loop-byte-preserved
loop-byte-preserved c =
    let i = c.loop-byte.byte-index in
    let inside : i < length c.loop-byte.bytes = omega (arith, c.loop-byte-test.true, c.loop-byte.auto.bytes) in
    let x = get_or c.loop-byte.bytes i 0 in
    rw c.to_ascii_uppercase.ensures.value (map_over_more to_ascii_uppercase c.args.bytes.now c.loop-byte.bytes i x c.loop-byte-test.true c.loop-byte.invariant (sym (get_or_default_zero c.loop-byte.bytes i x inside)))

pub loop-byte-2-preserved : goal.loop-byte-2-preserved
loop-byte-2-preserved c =
    let i = c.loop-byte-2.byte-index in
    let inside : i < length c.loop-byte-2.bytes = omega (arith, c.loop-byte-2-test.true, c.loop-byte-2.auto.bytes) in
    let x = get_or c.loop-byte-2.bytes i 0 in
    rw c.to_ascii_lowercase.ensures.value (map_over_more to_ascii_lowercase c.args.bytes.now c.loop-byte-2.bytes i x c.loop-byte-2-test.true c.loop-byte-2.invariant (sym (get_or_default_zero c.loop-byte-2.bytes i x inside)))
