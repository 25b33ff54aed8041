use Rattle.std.proofs.Common.{◌≡◌, ◌+◌, ◌-◌, ◌*◌, ◌≤◌, length, take, drop, min, arith, ap, ◌∙◌}
use Rattle.std.proofs.lemmas.Slice.{take-put_mid}
use Rattle.std.proofs.lemmas.List.{length-take-le, length-drop, take-take}
use Rattle.bx_dump.specs.declared.xxd.columns.Digits.TheVariants.{Binary}
use Rattle.bx_dump.specs.private.Xxd.{columns_line}
use Rattle.bx_dump_columns.proofs.LinesLemmas.{lines_next_at, lines_zero}
use Rattle.bx_dump.proofs.xxd.columns.put_lines_of_6.Goals as goal

pub loop-k-init : goal.loop-k-init
loop-k-init c = lines_zero (columns_line Binary 6 1) 6 c.args.at c.args.bytes.now (omega arith)

pub loop-k-preserved : goal.loop-k-preserved
loop-k-preserved c =
    let line = columns_line Binary 6 1 in
    let bytes = c.args.bytes.now in
    let n = length bytes in
    let k = c.loop-k.k in
    let a = 72 * k in
    let inside : 6 * k + 16 ≤ n = omega (arith, c.loop-k-test.true) in
    let room : a + 72 ≤ length c.loop-k.text = omega (arith, c.loop-k.auto.text, c.requires.room, c.loop-k-test.true) in
    let same : a + 72 - a ≡ 72 = omega arith in
    let text = c.put_line_of_6.new.line in
    let len : length text ≡ 72 = c.put_line_of_6.auto.line ∙ length-take-le (a + 72 - a) (drop a c.loop-k.text) (omega (arith, length-drop a c.loop-k.text)) ∙ same in
    let more = take-put_mid a (a + 72 - a) c.loop-k.text text (72 * (k + 1)) (omega arith) (omega arith) in
    let first = take-take 6 (6 * k + 16 - 6 * k) (drop (6 * k) bytes) (omega arith) in
    let cut : 6 ≡ min (6 * k + 6) n - 6 * k = omega (arith, inside) in
    let after : text ≡ line (c.args.at + 6 * k) (take (min (6 * k + 6) n - 6 * k) (drop (6 * k) bytes)) =
    c.put_line_of_6.ensures ∙ ap (line (c.args.at + 6 * k)) first ∙ ap (λ m. line (c.args.at + 6 * k) (take m (drop (6 * k) bytes))) cut in
    more ∙ lines_next_at line 6 c.args.at k (6 * k) bytes _ _ (omega arith) (omega arith) (omega (arith, inside)) c.loop-k.invariant after
