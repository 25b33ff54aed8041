use Rattle.std.proofs.Common.{◌≡◌, ◌+◌, ◌-◌, ◌*◌, ◌/◌, ◌<◌, ◌≤◌, ℕ, length, take, replicate, refl, ap, ◌∙◌, sym, arith}
use Rattle.std.proofs.lemmas.List.{length-replicate}
use Rattle.std.proofs.Math.Nat.{mul-le-mul_left}
use Rattle.bx_dump_columns.specs.Lines.{in_lines}
use Rattle.bx_dump_columns.proofs.LinesLemmas.{in_lines-one}
use Rattle.bx_dump.proofs.ZerosLemmas.{blank_line, one_room}
use Rattle.bx_dump.proofs.xxd.zeros.put_zero_line.Goals as goal

digits_fit : (width cols : ℕ) → width ≤ 8 → cols ≤ 256 → width * cols ≤ 2048
digits_fit width cols few short = omega (arith, mul-le-mul_left {m = cols} {n = 256} width short)

pub split_at_mut-digits-requires : goal.split_at_mut-digits-requires
split_at_mut-digits-requires g c = digits_fit c.cell_len.result c.line_len-cols.result c.cell_len.ensures.most c.line_len-cols.ensures.most

pub put_text-requires-clause-cells : goal.put_text-requires-clause-cells
put_text-requires-clause-cells g c =
    let n = c.line_len-cols.result in
    let line = blank_line n 256 c.blank-zeros.result c.blank-zeros.ensures c.line_len-cols.ensures.most in
    let long : length (take n c.blank-zeros.result) ≡ n = ap length line ∙ length-replicate {A = ℕ} n 0 in
    let width : c.cell_len.result * n ≡ g.F.LineForm.width c.args.form.now * n = ap (λ w. w * n) c.cell_len.ensures.value in
    rw long (omega (arith, width, c.split_at_mut-digits.ensures.front_len))

pub put_text-requires-clause-room : goal.put_text-requires-clause-room
put_text-requires-clause-room g c =
    let line = blank_line c.line_len-cols.result 256 c.blank-zeros.result c.blank-zeros.ensures c.line_len-cols.ensures.most in
    let n = c.line_len-cols.result in
    let C = g.F.LineForm.cols c.args.form.now in
    let value = c.line_len-cols.ensures.value in
    let pos = rw value at c.line_len-cols.ensures.some in
    let long : length (take n c.blank-zeros.result) ≡ C = ap length line ∙ length-replicate {A = ℕ} n 0 ∙ value in
    rw (long, one_room C (g.F.LineForm.room c.args.form.now) pos) c.requires.room

pub put_text-requires-clause-address : goal.put_text-requires-clause-address
put_text-requires-clause-address g c =
    let line = blank_line c.line_len-cols.result 256 c.blank-zeros.result c.blank-zeros.ensures c.line_len-cols.ensures.most in
    let n = c.line_len-cols.result in
    let C = g.F.LineForm.cols c.args.form.now in
    let long : length (take n c.blank-zeros.result) ≡ C = ap length line ∙ length-replicate {A = ℕ} n 0 ∙ c.line_len-cols.ensures.value in
    rw long c.requires.address

pub returns-clause-most : goal.returns-clause-most
returns-clause-most g c =
    let line = blank_line c.line_len-cols.result 256 c.blank-zeros.result c.blank-zeros.ensures c.line_len-cols.ensures.most in
    let n = c.line_len-cols.result in
    let C = g.F.LineForm.cols c.args.form.now in
    let value = c.line_len-cols.ensures.value in
    let pos = rw value at c.line_len-cols.ensures.some in
    let long : length (take n c.blank-zeros.result) ≡ C = ap length line ∙ length-replicate {A = ℕ} n 0 ∙ value in
    rw (long, one_room C (g.F.LineForm.room c.args.form.now) pos) at c.put_text.ensures.most

pub returns-clause-text : goal.returns-clause-text
returns-clause-text g c =
    let line = blank_line c.line_len-cols.result 256 c.blank-zeros.result c.blank-zeros.ensures c.line_len-cols.ensures.most in
    let n = c.line_len-cols.result in
    let C = g.F.LineForm.cols c.args.form.now in
    let F = g.F.LineForm.line c.args.form.now in
    let value = c.line_len-cols.ensures.value in
    let pos = rw value at c.line_len-cols.ensures.some in
    let bytes : take n c.blank-zeros.result ≡ replicate C 0 = line ∙ ap (λ k. replicate k 0) value in
    let long : length (replicate {A = ℕ} C 0) ≡ C = length-replicate {A = ℕ} C 0 in
    c.put_text.ensures.text ∙ ap (in_lines F C c.args.at) bytes ∙ in_lines-one F C c.args.at (replicate C 0) (omega arith) (omega arith)
