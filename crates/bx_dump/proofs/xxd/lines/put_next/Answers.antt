use Rattle.std.proofs.Common.{◌≡◌, ℕ, ◌+◌, ◌-◌, ◌*◌, ◌≤◌, length, take, drop, arith, sym, ap, ◌∙◌}
use Rattle.std.proofs.Math.Nat.{mul-le-mul_left}
use Rattle.bx_dump_columns.proofs.LinesLemmas.{cells_len, cells_part}
use Rattle.bx_dump.proofs.xxd.lines.put_next.Goals as goal

pub slice_bounds-digits-end : goal.slice_bounds-digits-end
slice_bounds-digits-end g c =
    let f = g.F.LineForm.cell c.args.form.now in
    let w = c.cell_len-width.result in
    let bytes = c.args.bytes.now in
    let even = λ (b : ℕ). c.even.ensures b ∙ sym c.cell_len-width.ensures.value in
    let all : length c.args.cells.now ≡ w * length bytes = ap length c.requires.cells ∙ cells_len f w even bytes in
    let inside : w * c.min-end.result ≤ w * length bytes = mul-le-mul_left {m = c.min-end.result} {n = length bytes} w (omega (arith, c.min-end.ensures)) in
    let fits : w * c.min-end.result ≤ length c.args.cells.now = omega arith in
    fits

pub put_line-requires-clause-cells : goal.put_line-requires-clause-cells
put_line-requires-clause-cells g c =
    let f = g.F.LineForm.cell c.args.form.now in
    let w = c.cell_len-width.result in
    let bytes = c.args.bytes.now in
    let even = λ (b : ℕ). c.even.ensures b ∙ sym c.cell_len-width.ensures.value in
    let size = c.min-end.result - c.args.begin in
    let order : c.args.begin ≤ c.min-end.result = omega (arith, c.min-end.ensures, c.requires.inside) in
    let total : c.args.begin + size ≡ c.min-end.result = omega arith in
    let many : w * c.min-end.result - w * c.args.begin ≡ w * size = omega (arith, ap (λ n. w * n) total) in
    ap (λ t. take (w * c.min-end.result - w * c.args.begin) (drop (w * c.args.begin) t)) c.requires.cells ∙ cells_part f w even c.args.begin size (w * c.min-end.result - w * c.args.begin) bytes many

pub put_line-requires-clause-long : goal.put_line-requires-clause-long
put_line-requires-clause-long g c =
    let chunk = take (c.min-end.result - c.args.begin) (drop c.args.begin c.args.bytes.now) in
    ap length (put_line-requires-clause-cells g c) ∙ cells_len (g.F.LineForm.cell c.args.form.now) (g.F.LineForm.width c.args.form.now) c.even.ensures chunk
