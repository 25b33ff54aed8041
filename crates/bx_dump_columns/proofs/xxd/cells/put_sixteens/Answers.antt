use Rattle.std.proofs.Common.{◌≡◌, ◌+◌, ◌-◌, ◌*◌, ◌≤◌, ◌++◌, length, take, drop, arith, sym, ap, ◌∙◌}
use Rattle.std.specs.List.{flat_map}
use Rattle.std.proofs.Math.Seq.{take-add}
use Rattle.std.proofs.lemmas.Slice.{take-put_mid}
use Rattle.std.proofs.lemmas.Grind.{flat_map-append}
use Rattle.std.proofs.lemmas.List.{length-take-le, length-drop}
use Rattle.bx_text.specs.Dump.{pair_of}
use Rattle.bx_dump_columns.proofs.xxd.cells.put_sixteens.Goals as goal

pub loop-k-preserved : goal.loop-k-preserved
loop-k-preserved c =
    let k = c.loop-k.k in
    let a = 32 * k in
    let f = pair_of c.args.upper in
    let bytes = c.args.bytes.now in
    let part = c.put_sixteen.new.cells in
    let room : a + 32 ≤ length c.loop-k.cells = omega (arith, c.loop-k.auto.cells, c.requires.room, c.loop-k-test.true) in
    let many : a + 32 - a ≡ 32 = omega arith in
    let size : length part ≡ 32 = c.put_sixteen.auto.cells ∙ length-take-le (a + 32 - a) (drop a c.loop-k.cells) (omega (arith, length-drop a c.loop-k.cells)) ∙ many in
    let taken : 16 * k + 16 - 16 * k ≡ 16 = omega arith in
    let is : part ≡ flat_map f (take 16 (drop (16 * k) bytes)) = c.put_sixteen.ensures ∙ ap (λ n. flat_map f (take n (drop (16 * k) bytes))) taken in
    let next : 16 * k + 16 ≡ 16 * (k + 1) = omega arith in
    let more = take-put_mid a (a + 32 - a) c.loop-k.cells part (32 * (k + 1)) (omega arith) (omega arith) in
    more ∙ ap (λ t. t ++ part) c.loop-k.invariant ∙ ap (λ t. flat_map f (take (16 * k) bytes) ++ t) is
    ∙ sym (flat_map-append f (take (16 * k) bytes) (take 16 (drop (16 * k) bytes)))
    ∙ ap (flat_map f) (sym (take-add (16 * k) 16 bytes) ∙ ap (λ n. take n bytes) next)
