use Rattle.std.proofs.Common.{◌≡◌, ◌+◌, ◌*◌, ◌++◌, length, take, arith, sym, ap, ◌∙◌}
use Rattle.std.proofs.lemmas.List.{length-append, take-append-le}
use Rattle.bx_dump_columns.specs.Lines.{in_lines}
use Rattle.bx_dump_columns.proofs.LinesLemmas.{in_lines-append}
use Rattle.bx_dump.proofs.xxd.lines.LinesPages.put.Goals as goal

pub put_text-requires-clause-cells : goal.put_text-requires-clause-cells
put_text-requires-clause-cells g c =
    let n = length c.args.bytes.now in
    let cells : c.cell_len.result * n ≡ g.F.LineForm.width c.args.self.now.form * n = ap (λ w. w * n) c.cell_len.ensures.value in
    omega (arith, cells, c.split_at_mut-text.ensures.back_len, c.requires.page)

pub put_text-requires-clause-room : goal.put_text-requires-clause-room
put_text-requires-clause-room g c =
    let n = length c.args.bytes.now in
    let cells : c.cell_len.result * n ≡ g.F.LineForm.width c.args.self.now.form * n = ap (λ w. w * n) c.cell_len.ensures.value in
    omega (arith, cells, c.split_at_mut-text.ensures.front_len, c.requires.page)

pub returns-clause-text : goal.returns-clause-text
returns-clause-text g c input len seen full =
    let p = c.args.self.now in
    let line = g.F.LineForm.line p.form in
    let C = g.F.LineForm.cols p.form in
    let bytes = c.args.bytes.now in
    let rest = c.put_text.new.cells in
    let front : take c.put_text.result (c.put_text.new.text ++ rest) ≡ take c.put_text.result c.put_text.new.text =
    take-append-le c.put_text.result c.put_text.new.text rest (omega (arith, c.put_text.ensures.within, c.put_text.auto.text)) in
    let place : p.start + length input ≡ p.start + c.args.done = ap (λ n. p.start + n) len in
    in_lines-append line C p.start seen.0 input bytes p.broad seen.1
    ∙ ap (λ t. in_lines line C p.start input ++ t) (ap (λ n. in_lines line C n bytes) place ∙ sym (front ∙ c.put_text.ensures.text))

pub returns-clause-last : goal.returns-clause-last
returns-clause-last g c input len seen short =
    let p = c.args.self.now in
    let line = g.F.LineForm.line p.form in
    let C = g.F.LineForm.cols p.form in
    let bytes = c.args.bytes.now in
    let rest = c.put_text.new.cells in
    let front : take c.put_text.result (c.put_text.new.text ++ rest) ≡ take c.put_text.result c.put_text.new.text =
    take-append-le c.put_text.result c.put_text.new.text rest (omega (arith, c.put_text.ensures.within, c.put_text.auto.text)) in
    let place : p.start + length input ≡ p.start + c.args.done = ap (λ n. p.start + n) len in
    in_lines-append line C p.start seen.0 input bytes p.broad seen.1
    ∙ ap (λ t. in_lines line C p.start input ++ t) (ap (λ n. in_lines line C n bytes) place ∙ sym (front ∙ c.put_text.ensures.text))

pub returns-clause-seen : goal.returns-clause-seen
returns-clause-seen g c input len seen whole =
    let p = c.args.self.now in
    (seen.0 + p.lines, omega (arith, length-append input c.args.bytes.now, seen.1, whole))
