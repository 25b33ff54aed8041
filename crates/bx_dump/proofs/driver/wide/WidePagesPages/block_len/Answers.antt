use Rattle.std.proofs.Common.{◌≡◌, ◌+◌, ◌-◌, ◌*◌, ◌/◌, ◌≤◌, arith, ap}
use Rattle.bx_dump.proofs.RoomLemmas.{lines_fit}
use Rattle.bx_dump.proofs.driver.wide.WidePagesPages.block_len.Goals as goal

pub returns-clause-fits : goal.returns-clause-fits
returns-clause-fits g c n inside =
    let p = c.args.self.now in
    let C = g.F.WideForm.cols p.form in
    let R = g.F.WideForm.room p.form in
    let few : (R + 0 * C) * p.lines ≤ 131072 = omega (arith, p.short) in
    let count : n + C - 1 ≡ n + (C - 1) = omega (arith, p.broad) in
    let fits = lines_fit n C R 0 p.lines 131072 p.broad (omega (arith, inside, ap (λ n. n * p.lines) c.line_len.ensures.value)) few in
    omega (arith, rw count at fits)
