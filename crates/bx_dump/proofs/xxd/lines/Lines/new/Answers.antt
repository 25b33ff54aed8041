use Rattle.std.proofs.Common.{◌≡◌, ℕ, ◌*◌, ◌/◌, ◌<◌, ◌≤◌, arith}
use Rattle.std.proofs.Math.Nat.{mul-div-le, mul-le-mul_left, le-div_iff_mul-le}
use Rattle.bx_dump.proofs.xxd.lines.Lines.new.Goals as goal

-- as many as fit
fit : (a n total : ℕ) → n ≤ total / a → a * n ≤ total
fit a n total le = omega (arith, mul-div-le total a, mul-le-mul_left {m = n} {n = total / a} a le)

some_fit : (a total : ℕ) → 0 < a → a ≤ total → 1 ≤ total / a
some_fit a total pos le = (le-div_iff_mul-le {k = a} {x = 1} {y = total} pos).1 (omega arith)

pub invariant_of-result : goal.invariant_of-result
invariant_of-result g c =
    let cols = c.line_len-cols.ensures in
    let room = c.room_len-by_room.ensures in
    let width = c.cell_len.ensures in
    let lines = c.min-lines.result in
    let C = g.F.LineForm.cols c.args.form in
    let R = g.F.LineForm.room c.args.form in
    let W = g.F.LineForm.width c.args.form in
    let wide : c.cell_len.result * c.line_len-cols.result ≤ 8 * 256 = omega (arith, mul-le-mul_left {m = c.line_len-cols.result} {n = 256} c.cell_len.result cols.most, width.most) in
    let pos : 1 * 1 ≤ c.cell_len.result * c.line_len-cols.result = omega (arith, mul-le-mul_left {m = 1} {n = c.line_len-cols.result} c.cell_len.result (omega (arith, cols.some)), width.some) in
    let a : 1 ≤ 65536 / c.room_len-by_room.result = some_fit c.room_len-by_room.result 65536 room.some (omega (arith, room.most)) in
    let b : 1 ≤ 32768 / (c.cell_len.result * c.line_len-cols.result) = some_fit (c.cell_len.result * c.line_len-cols.result) 32768 (omega arith) (omega arith) in
    let d : 1 ≤ 16384 / c.line_len-cols.result = some_fit c.line_len-cols.result 16384 cols.some (omega (arith, cols.most)) in
    let few : c.line_len-cols.result * lines ≤ 16384 = fit c.line_len-cols.result lines 16384 (omega (arith, c.min-lines.ensures)) in
    let short : c.room_len-by_room.result * lines ≤ 65536 = fit c.room_len-by_room.result lines 65536 (omega (arith, c.min-lines.ensures, c.min.ensures)) in
    let narrow : c.cell_len.result * c.line_len-cols.result * lines ≤ 32768 = fit (c.cell_len.result * c.line_len-cols.result) lines 32768 (omega (arith, c.min-lines.ensures, c.min.ensures)) in
    let same : c.cell_len.result * c.line_len-cols.result * lines ≡ c.cell_len.result * (c.line_len-cols.result * lines) = omega arith in
    record {
      low = c.requires;
      broad = rw cols.value at cols.some;
      some = omega (arith, c.min-lines.ensures, c.min.ensures);
      few = rw cols.value at few;
      short = rw room.value at short;
      narrow = rw (cols.value, width.value) at (rw same at narrow);
    }
