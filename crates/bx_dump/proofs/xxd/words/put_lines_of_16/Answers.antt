use Rattle.std.proofs.Common.{◌≡◌, ◌+◌, ◌-◌, ◌*◌, ◌/◌, ◌≤◌, false, length, take, drop, min, arith, ap, ◌∙◌}
use Rattle.std.proofs.lemmas.Slice.{take-put_mid}
use Rattle.std.proofs.lemmas.List.{length-take-le, length-drop}
use Rattle.std.proofs.Math.Nat.{mul-le-mul_left}
use Rattle.bx_dump.specs.Xxd.{words_line}
use Rattle.bx_dump_columns.proofs.LinesLemmas.{lines_next_at}
use Rattle.bx_dump.proofs.xxd.words.put_lines_of_16.Goals as goal

pub loop-k-preserved : goal.loop-k-preserved
loop-k-preserved c =
    let line = words_line false c.args.upper 16 c.args.group in
    let bytes = c.args.bytes.now in
    let n = length bytes in
    let size = c.args.size in
    let k = c.loop-k.k in
    let a = size * k in
    let inside : 16 * k + 16 ≤ n = omega (arith, c.loop-k-test.true) in
    let count : k + 1 ≤ (n + 15) / 16 = omega (arith, inside) in
    let all : (size + 14) * (k + 1) ≤ length c.args.text.now = omega (arith, c.requires.room, mul-le-mul_left (size + 14) count) in
    let room : a + size ≤ length c.loop-k.text = omega (arith, c.loop-k.auto.text, all) in
    let same : a + size - a ≡ size = omega arith in
    let text = c.put_line_of_16.new.line in
    let len : length text ≡ size = c.put_line_of_16.auto.line ∙ length-take-le (a + size - a) (drop a c.loop-k.text) (omega (arith, length-drop a c.loop-k.text)) ∙ same in
    let more = take-put_mid a (a + size - a) c.loop-k.text text (size * (k + 1)) (omega arith) (omega arith) in
    let cut : 16 * k + 16 - 16 * k ≡ min (16 * k + 16) n - 16 * k = omega (arith, inside) in
    let after = c.put_line_of_16.ensures ∙ ap (λ m. line (c.args.at + 16 * k) (take m (drop (16 * k) bytes))) cut in
    more ∙ lines_next_at line 16 c.args.at k (16 * k) bytes _ _ (omega arith) (omega arith) (omega (arith, inside)) c.loop-k.invariant after
