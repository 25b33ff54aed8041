use Rattle.std.proofs.Common.{◌≡◌, ◌+◌, ◌-◌, ◌*◌, ◌/◌, ◌++◌, length, take, arith, sym, ap, ◌∙◌}
use Rattle.std.proofs.Math.Seq.{take-append-add}
use Rattle.bx_dump_columns.specs.Lines.{in_lines}
use Rattle.bx_dump.specs.private.Zeros.{row_end}
use Rattle.bx_dump.proofs.xxd.zeros.put_shown.Goals as goal

pub returns-clause-text : goal.returns-clause-text
returns-clause-text g c =
    let C = g.F.LineForm.cols c.args.form.now in
    let line = g.F.LineForm.line c.args.form.now in
    let bytes = c.args.bytes.now in
    let front = c.split_at_mut-rest.result.0.now in
    let more = c.put_text.new.text in
    ap (λ n. take (n + c.put_text.result) (front ++ more)) (sym c.split_at_mut-rest.ensures.front_len)
    ∙ take-append-add front more c.put_text.result
    ∙ ap (λ t. t ++ take c.put_text.result more) (c.split_at_mut-rest.ensures.front ∙ c.put_row_end-first.ensures.text)
    ∙ ap (λ t. row_end line C c.args.at c.args.zeros ++ t) c.put_text.ensures.text
