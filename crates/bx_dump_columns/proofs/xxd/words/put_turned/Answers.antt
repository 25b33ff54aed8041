use Rattle.std.proofs.Common.{◌≡◌, ◌+◌, ◌-◌, ◌*◌, ◌<◌, ◌≤◌, ◌++◌, length, get_or, take, arith, sym, ap, ◌∙◌}
use Rattle.std.specs.Prelude.{reverse}
use Rattle.std.specs.List.{flat_map}
use Rattle.std.proofs.lemmas.Slice.{take-put_mid}
use Rattle.std.proofs.lemmas.List.{get_or-reverse, length-reverse}
use Rattle.bx_text.specs.Dump.{pair_of}
use Rattle.bx_dump_columns.proofs.CellsLemmas.{flat_more}
use Rattle.bx_dump_columns.proofs.xxd.words.put_turned.Goals as goal

pub loop-i-preserved : goal.loop-i-preserved
loop-i-preserved c =
    let bytes = c.args.bytes.now in
    let i = c.loop-i.i in
    let part = c.put_pair.new.cells in
    let f = pair_of c.args.upper in
    let below : i < length bytes = c.loop-i-test.true in
    let same : 2 * i + 2 - 2 * i ≡ 2 = omega arith in
    let size : length part ≡ 2 = ap length c.put_pair.ensures in
    let room : 2 * i + 2 ≤ length c.loop-i.cells = omega (arith, c.loop-i.auto.cells, c.requires) in
    let more = take-put_mid (2 * i) (2 * i + 2 - 2 * i) c.loop-i.cells part (2 * (i + 1)) (omega arith) (omega arith) in
    let inside : i < length (reverse bytes) = omega (arith, length-reverse bytes) in
    let byte : get_or (reverse bytes) i 0 ≡ get_or bytes (length bytes - 1 - i) 0 = get_or-reverse bytes i 0 below in
    more ∙ ap (λ t. t ++ part) c.loop-i.invariant ∙ ap (λ t. flat_map f (take i (reverse bytes)) ++ t) (c.put_pair.ensures ∙ ap f (sym byte)) ∙ sym (flat_more f (reverse bytes) i inside)
