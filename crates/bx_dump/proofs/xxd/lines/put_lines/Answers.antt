use Rattle.std.proofs.Common.{◌≡◌, ◌+◌, ◌-◌, ◌*◌, ◌/◌, ◌≤◌, length, drop, arith, ap, ◌∙◌}
use Rattle.std.proofs.lemmas.List.{length-drop, length-take-le}
use Rattle.std.proofs.Math.Nat.{mul-le-mul_left}
use Rattle.bx_text.proofs.KnownLemmas.{take-put_mid_more}
use Rattle.bx_dump_columns.proofs.LinesLemmas.{line_begin, line_end, lines_next_at, lines_all, lines_within}
use Rattle.bx_dump.proofs.xxd.lines.put_lines.Goals as goal

pub loop-k-init : goal.loop-k-init
loop-k-init g c = record { within = c.put_common-first.ensures.most; text = c.put_common-first.ensures.text }

pub loop-k-preserved : goal.loop-k-preserved
loop-k-preserved g c =
    let C = g.F.LineForm.cols c.args.form.now in
    let R = g.F.LineForm.room c.args.form.now in
    let line = g.F.LineForm.line c.args.form.now in
    let bytes = c.args.bytes.now in
    let k = c.loop-k.k in
    let used = c.loop-k.used in
    let before = c.loop-k.invariant in
    let next = c.put_next-used.ensures in
    let value = c.line_len-cols.ensures.value in
    let pos = rw value at c.line_len-cols.ensures.some in
    let below = rw value at c.loop-k-test.true in
    let inside = line_begin (length bytes) C k pos below in
    let begin : c.line_len-cols.result * k ≡ C * k = ap (λ n. n * k) value in
    let count : R * (k + 1) ≤ R * ((length bytes + C - 1) / C) = mul-le-mul_left {m = k + 1} {n = (length bytes + C - 1) / C} R (omega arith) in
    let room : length c.put_next-used.new.text ≡ length c.loop-k.text - used = c.put_next-used.auto.text ∙ length-take-le (length c.loop-k.text - used) (drop used c.loop-k.text) (omega (arith, length-drop used c.loop-k.text)) in
    let more = take-put_mid_more c.loop-k.text c.put_next-used.new.text used (length c.loop-k.text - used) c.put_next-used.result (omega (arith, before.within, count, c.loop-k.auto.text, c.requires.room)) (omega (arith, room, next.most, before.within, count, c.loop-k.auto.text, c.requires.room)) in
    record {
      within = omega (arith, before.within, next.most);
      text = more ∙ lines_next_at line C c.args.at k (c.line_len-cols.result * k) bytes _ _ pos begin (omega (arith, inside, begin)) before.text next.text;
    }

pub returns-clause-text : goal.returns-clause-text
returns-clause-text g c =
    let C = g.F.LineForm.cols c.args.form.now in
    let line = g.F.LineForm.line c.args.form.now in
    let value = c.line_len-cols.ensures.value in
    let pos = rw value at c.line_len-cols.ensures.some in
    let bytes = c.args.bytes.now in
    let all = rw value at c.loop-k-test.false in
    lines_all line C c.args.at c.loop-k.k bytes _ (omega (arith, line_end (length bytes) C pos, mul-le-mul_left {m = (length bytes + C - 1) / C} {n = c.loop-k.k} C all)) c.loop-k.invariant.text

pub overflow_add-used : goal.overflow_add-used
overflow_add-used g c =
    let C = g.F.LineForm.cols c.args.form.now in
    let R = g.F.LineForm.room c.args.form.now in
    let n = length c.args.bytes.now in
    let below = rw c.line_len-cols.ensures.value at c.loop-k-test.true in
    let count : R * (c.loop-k.k + 1) ≤ R * ((n + C - 1) / C) = mul-le-mul_left {m = c.loop-k.k + 1} {n = (n + C - 1) / C} R (omega arith) in
    let few : c.loop-k.used + c.put_next-used.result ≤ length c.args.text.now = omega (arith, c.loop-k.invariant.within, c.put_next-used.ensures.most, c.requires.room) in
    omega arith

pub returns-clause-within : goal.returns-clause-within
returns-clause-within g c =
    let C = g.F.LineForm.cols c.args.form.now in
    let R = g.F.LineForm.room c.args.form.now in
    let n = length c.args.bytes.now in
    let value = c.line_len-cols.ensures.value in
    let pos = rw value at c.line_len-cols.ensures.some in
    let first : c.put_common-first.result.lines ≤ (n + C - 1) / C = lines_within n C c.put_common-first.result.lines pos c.put_common-first.ensures.inside in
    let end = rw value at c.loop-k.auto.k-end in
    let last : c.loop-k.k ≤ (n + C - 1) / C = end first in
    let count : R * c.loop-k.k ≤ R * ((n + C - 1) / C) = mul-le-mul_left {m = c.loop-k.k} {n = (n + C - 1) / C} R last in
    omega (arith, c.loop-k.invariant.within, c.requires.room)

pub returns-clause-most : goal.returns-clause-most
returns-clause-most g c =
    let C = g.F.LineForm.cols c.args.form.now in
    let R = g.F.LineForm.room c.args.form.now in
    let n = length c.args.bytes.now in
    let value = c.line_len-cols.ensures.value in
    let pos = rw value at c.line_len-cols.ensures.some in
    let first : c.put_common-first.result.lines ≤ (n + C - 1) / C = lines_within n C c.put_common-first.result.lines pos c.put_common-first.ensures.inside in
    let end = rw value at c.loop-k.auto.k-end in
    let last : c.loop-k.k ≤ (n + C - 1) / C = end first in
    let count : R * c.loop-k.k ≤ R * ((n + C - 1) / C) = mul-le-mul_left {m = c.loop-k.k} {n = (n + C - 1) / C} R last in
    omega (arith, c.loop-k.invariant.within)
