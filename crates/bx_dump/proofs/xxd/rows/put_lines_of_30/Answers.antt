use Rattle.std.proofs.Common.{◌≡◌, ◌+◌, ◌-◌, ◌*◌, ◌≤◌, length, take, drop, min, arith, ap, ◌∙◌}
use Rattle.std.proofs.lemmas.Slice.{take-put_mid}
use Rattle.std.proofs.lemmas.List.{length-take-le, length-drop}
use Rattle.bx_dump.specs.private.Rows.{plain_line}
use Rattle.bx_dump_columns.proofs.LinesLemmas.{lines_next_at}
use Rattle.bx_dump.proofs.xxd.rows.put_lines_of_30.Goals as goal

pub loop-k-preserved : goal.loop-k-preserved
loop-k-preserved c =
    let line = plain_line c.args.upper in
    let bytes = c.args.bytes.now in
    let n = length bytes in
    let k = c.loop-k.k in
    let a = 61 * k in
    let inside : 30 * k + 30 ≤ n = omega (arith, c.loop-k-test.true) in
    let room : a + 61 ≤ length c.loop-k.text = omega (arith, c.loop-k.auto.text, c.requires, c.loop-k-test.true) in
    let same : a + 61 - a ≡ 61 = omega arith in
    let text = c.put_thirty.new.line in
    let len : length text ≡ 61 = c.put_thirty.auto.line ∙ length-take-le (a + 61 - a) (drop a c.loop-k.text) (omega (arith, length-drop a c.loop-k.text)) ∙ same in
    let more = take-put_mid a (a + 61 - a) c.loop-k.text text (61 * (k + 1)) (omega arith) (omega arith) in
    let cut : 30 * k + 30 - 30 * k ≡ min (30 * k + 30) n - 30 * k = omega (arith, inside) in
    let after : text ≡ line (c.args.at + 30 * k) (take (min (30 * k + 30) n - 30 * k) (drop (30 * k) bytes)) =
    c.put_thirty.ensures ∙ ap (λ m. line (c.args.at + 30 * k) (take m (drop (30 * k) bytes))) cut in
    more ∙ lines_next_at line 30 c.args.at k (30 * k) bytes _ _ (omega arith) (omega arith) (omega (arith, inside)) c.loop-k.invariant after
