use Rattle.std.proofs.Common.{◌≡◌, ◌+◌, ◌-◌, ◌*◌, ◌≤◌, ◌++◌, length, take, drop, map, arith, sym, ap, ◌∙◌}
use Rattle.std.proofs.Math.Seq.{take-add}
use Rattle.std.proofs.lemmas.Slice.{take-put_mid}
use Rattle.std.proofs.lemmas.List.{length-take-le, length-drop, map-append}
use Rattle.bx_text.specs.Dump.{shown_byte}
use Rattle.bx_dump_columns.proofs.hex_lanes.put_shown_sixteens.Goals as goal

pub loop-k-preserved : goal.loop-k-preserved
loop-k-preserved c =
    let k = c.loop-k.k in
    let a = 16 * k in
    let bytes = c.args.bytes.now in
    let part = c.put_shown.new.field in
    let room : a + 16 ≤ length c.loop-k.field = omega (arith, c.loop-k.auto.field, c.requires.room, c.loop-k-test.true) in
    let many : a + 16 - a ≡ 16 = omega arith in
    let size : length part ≡ 16 = c.put_shown.auto.field ∙ length-take-le (a + 16 - a) (drop a c.loop-k.field) (omega (arith, length-drop a c.loop-k.field)) ∙ many in
    let is : part ≡ map shown_byte (take 16 (drop a bytes)) = c.put_shown.ensures ∙ ap (λ n. map shown_byte (take n (drop a bytes))) many in
    let next : a + 16 ≡ 16 * (k + 1) = omega arith in
    let more = take-put_mid a (a + 16 - a) c.loop-k.field part (16 * (k + 1)) (omega arith) (omega arith) in
    more ∙ ap (λ t. t ++ part) c.loop-k.invariant ∙ ap (λ t. map shown_byte (take a bytes) ++ t) is
    ∙ sym (map-append shown_byte (take a bytes) (take 16 (drop a bytes)))
    ∙ ap (map shown_byte) (sym (take-add a 16 bytes) ∙ ap (λ n. take n bytes) next)
