use Rattle.std.proofs.Common.{◌≡◌, ◌+◌, ◌*◌, ◌/◌, ◌≤◌, arith, refl, ap}
use Rattle.std.proofs.Math.Nat.{mul-div-le}
use Rattle.bx_dump.proofs.RoomLemmas.{lines_fit}
use Rattle.bx_dump.proofs.xxd.lines.LinesPages.start_len.Goals as goal

pub returns-clause-fits : goal.returns-clause-fits
returns-clause-fits g c n inside =
    let p = c.args.self.now in
    let C = g.F.LineForm.cols p.form in
    let R = g.F.LineForm.room p.form in
    let W = g.F.LineForm.width p.form in
    let room = c.room_len.result + c.cell_len.result * c.line_len-cols.result in
    let lines = 4096 / room in
    let line : room ≡ R + W * C = rw (c.room_len.ensures.value, c.cell_len.ensures.value, c.line_len-cols.ensures.value) refl in
    let place : c.line_len-cols.result * lines ≡ C * lines = ap (λ n. n * lines) c.line_len-cols.ensures.value in
    let few : (R + W * C) * lines ≤ 4096 = omega (arith, mul-div-le 4096 room, ap (λ n. n * lines) line) in
    lines_fit n C R W lines 4096 p.broad (omega (arith, inside, c.min.ensures, place)) few
