use Rattle.std.proofs.Common.{◌≡◌, ◌+◌, ◌-◌, ◌*◌, ◌/◌, ◌++◌, length, take, drop, arith, sym, ap, ◌∙◌}
use Rattle.std.proofs.lemmas.List.{length-drop, take_rest}
use Rattle.std.proofs.Math.Seq.{take-append-add}
use Rattle.bx_dump_columns.specs.Lines.{in_lines}
use Rattle.bx_dump_columns.proofs.LinesLemmas.{rest_fits, lines_join}
use Rattle.bx_dump.proofs.xxd.lines.put_text.Goals as goal

pub split_at_mut-more-requires : goal.split_at_mut-more-requires
split_at_mut-more-requires g c =
    let C = g.F.LineForm.cols c.args.form.now in
    let R = g.F.LineForm.room c.args.form.now in
    let first = c.put_alone-first.result in
    let pos = rw c.line_len.ensures.value at c.line_len.ensures.some in
    omega (arith, rest_fits (length c.args.bytes.now) C first.lines R first.used (length c.args.text.now) pos c.put_alone-first.ensures.inside c.put_alone-first.ensures.most c.requires.room, c.put_alone-first.auto.text)

pub put_lines-requires-clause-room : goal.put_lines-requires-clause-room
put_lines-requires-clause-room g c =
    let C = g.F.LineForm.cols c.args.form.now in
    let R = g.F.LineForm.room c.args.form.now in
    let bytes = c.args.bytes.now in
    let first = c.put_alone-first.result in
    let pos = rw c.line_len.ensures.value at c.line_len.ensures.some in
    let begin = c.line_len.result * first.lines in
    let place : begin ≡ C * first.lines = ap (λ n. n * first.lines) c.line_len.ensures.value in
    let rest : length (take (length bytes - begin) (drop begin bytes)) ≡ length bytes - C * first.lines =
    ap length (take_rest bytes begin) ∙ length-drop begin bytes ∙ ap (λ m. length bytes - m) place in
    rw rest (omega (arith, rest_fits (length bytes) C first.lines R first.used (length c.args.text.now) pos c.put_alone-first.ensures.inside c.put_alone-first.ensures.most c.requires.room, c.put_alone-first.auto.text, c.split_at_mut-more.ensures.back_len))

pub returns-clause-text : goal.returns-clause-text
returns-clause-text g c =
    let C = g.F.LineForm.cols c.args.form.now in
    let line = g.F.LineForm.line c.args.form.now in
    let bytes = c.args.bytes.now in
    let first = c.put_alone-first.result in
    let pos = rw c.line_len.ensures.value at c.line_len.ensures.some in
    let begin = c.line_len.result * first.lines in
    let place : begin ≡ C * first.lines = ap (λ n. n * first.lines) c.line_len.ensures.value in
    let front = c.split_at_mut-more.result.0.now in
    let more = c.put_lines.new.text in
    let after : take c.put_lines.result more ≡ in_lines line C (c.args.at + C * first.lines) (drop (C * first.lines) bytes) =
    c.put_lines.ensures.text ∙ ap (in_lines line C (c.args.at + begin)) (take_rest bytes begin) ∙ ap (λ m. in_lines line C (c.args.at + m) (drop m bytes)) place in
    ap (λ n. take (n + c.put_lines.result) (front ++ more)) (sym c.split_at_mut-more.ensures.front_len)
    ∙ take-append-add front more c.put_lines.result
    ∙ lines_join line C c.args.at first.lines bytes front (take c.put_lines.result more) pos c.put_alone-first.ensures.inside (c.split_at_mut-more.ensures.front ∙ c.put_alone-first.ensures.text) after

pub returns-clause-most : goal.returns-clause-most
returns-clause-most g c =
    let C = g.F.LineForm.cols c.args.form.now in
    let R = g.F.LineForm.room c.args.form.now in
    let bytes = c.args.bytes.now in
    let first = c.put_alone-first.result in
    let pos = rw c.line_len.ensures.value at c.line_len.ensures.some in
    let begin = c.line_len.result * first.lines in
    let place : begin ≡ C * first.lines = ap (λ n. n * first.lines) c.line_len.ensures.value in
    let rest : length (take (length bytes - begin) (drop begin bytes)) ≡ length bytes - C * first.lines =
    ap length (take_rest bytes begin) ∙ length-drop begin bytes ∙ ap (λ m. length bytes - m) place in
    let back = rw rest at c.put_lines.ensures.most in
    omega (arith, back, rest_fits (length bytes) C first.lines R first.used (R * ((length bytes + C - 1) / C)) pos c.put_alone-first.ensures.inside c.put_alone-first.ensures.most (omega arith))
