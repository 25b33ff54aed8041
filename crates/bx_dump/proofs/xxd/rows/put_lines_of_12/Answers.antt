use Rattle.std.proofs.Common.{◌≡◌, ◌+◌, ◌-◌, ◌*◌, ◌≤◌, ◌++◌, length, take, drop, min, arith, ap, ◌∙◌}
use Rattle.std.specs.Prelude.{codes}
use Rattle.std.proofs.lemmas.Slice.{take-put_mid}
use Rattle.std.proofs.lemmas.List.{length-take-le, length-drop, take-take}
use Rattle.bx_dump.specs.Laws.{items}
use Rattle.bx_dump.specs.private.Rows.{include_line}
use Rattle.bx_dump_columns.proofs.LinesLemmas.{lines_next_at, lines_zero}
use Rattle.bx_dump.proofs.RowsLemmas.{row_behind}
use Rattle.bx_dump.proofs.xxd.rows.put_lines_of_12.Goals as goal

pub loop-k-init : goal.loop-k-init
loop-k-init c = lines_zero include_line 12 c.args.at c.args.bytes.now (omega arith)

pub loop-k-preserved : goal.loop-k-preserved
loop-k-preserved c =
    let bytes = c.args.bytes.now in
    let n = length bytes in
    let k = c.loop-k.k in
    let a = 74 * k in
    let inside : 12 * k + 16 ≤ n = omega (arith, c.loop-k-test.true) in
    let room : a + 74 ≤ length c.loop-k.text = omega (arith, c.loop-k.auto.text, c.requires.room, c.loop-k-test.true) in
    let same : a + 74 - a ≡ 74 = omega arith in
    let text = c.put_twelve.new.line in
    let len : length text ≡ 74 = c.put_twelve.auto.line ∙ length-take-le (a + 74 - a) (drop a c.loop-k.text) (omega (arith, length-drop a c.loop-k.text)) ∙ same in
    let more = take-put_mid a (a + 74 - a) c.loop-k.text text (74 * (k + 1)) (omega arith) (omega arith) in
    let first = take-take 12 (12 * k + 16 - 12 * k) (drop (12 * k) bytes) (omega arith) in
    let cut : 12 ≡ min (12 * k + 12) n - 12 * k = omega (arith, inside) in
    let after : text ≡ include_line (c.args.at + 12 * k) (take (min (12 * k + 12) n - 12 * k) (drop (12 * k) bytes)) =
    c.put_twelve.ensures ∙ ap (λ t. codes ",\n  " ++ items t) first ∙ row_behind (c.args.at + 12 * k) (take 12 (drop (12 * k) bytes)) (omega (arith, c.requires.behind))
    ∙ ap (λ m. include_line (c.args.at + 12 * k) (take m (drop (12 * k) bytes))) cut in
    more ∙ lines_next_at include_line 12 c.args.at k (12 * k) bytes _ _ (omega arith) (omega arith) (omega (arith, inside)) c.loop-k.invariant after
