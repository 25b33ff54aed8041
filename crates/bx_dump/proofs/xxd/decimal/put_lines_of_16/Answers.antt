use Rattle.std.proofs.Common.{◌≡◌, ◌+◌, ◌-◌, ◌*◌, ◌≤◌, length, take, drop, min, arith, ap, ◌∙◌}
use Rattle.std.proofs.lemmas.List.{length-take-le, length-drop}
use Rattle.bx_text.proofs.KnownLemmas.{take-put_mid_more}
use Rattle.bx_dump.specs.declared.xxd.columns.Digits.TheVariants.{Hexadecimal}
use Rattle.bx_dump.specs.private.Xxd.{decimal_line}
use Rattle.bx_dump_columns.proofs.LinesLemmas.{lines_next_at, lines_zero}
use Rattle.bx_dump.proofs.xxd.decimal.put_lines_of_16.Goals as goal

pub loop-k-init : goal.loop-k-init
loop-k-init c = record { within = omega arith; text = lines_zero (decimal_line (Hexadecimal c.args.upper) 16 2) 16 c.args.at c.args.bytes.now (omega arith) }

pub loop-k-preserved : goal.loop-k-preserved
loop-k-preserved c =
    let line = decimal_line (Hexadecimal c.args.upper) 16 2 in
    let bytes = c.args.bytes.now in
    let n = length bytes in
    let k = c.loop-k.k in
    let used = c.loop-k.used in
    let before = c.loop-k.invariant in
    let put = c.put_line_of_16-used.ensures in
    let inside : 16 * k + 16 ≤ n = omega (arith, c.loop-k-test.true) in
    let all : 82 * (k + 1) ≤ length c.loop-k.text = omega (arith, c.loop-k.auto.text, c.requires.room, c.loop-k-test.true) in
    let left : length c.put_line_of_16-used.new.text ≡ length c.loop-k.text - used =
    c.put_line_of_16-used.auto.text ∙ length-take-le (length c.loop-k.text - used) (drop used c.loop-k.text) (omega (arith, length-drop used c.loop-k.text)) in
    let more = take-put_mid_more c.loop-k.text c.put_line_of_16-used.new.text used (length c.loop-k.text - used) c.put_line_of_16-used.result (omega (arith, before.within, all)) (omega (arith, left, put.most, before.within, all)) in
    let cut : 16 * k + 16 - 16 * k ≡ min (16 * k + 16) n - 16 * k = omega (arith, inside) in
    let after = put.text ∙ ap (λ m. line (c.args.at + 16 * k) (take m (drop (16 * k) bytes))) cut in
    record {
      within = omega (arith, before.within, put.most);
      text = more ∙ lines_next_at line 16 c.args.at k (16 * k) bytes _ _ (omega arith) (omega arith) (omega (arith, inside)) before.text after;
    }
