use Rattle.std.proofs.Common.{◌≡◌, ◌+◌, ◌*◌, ◌≤◌, arith, ap}
use Rattle.bx_dump.proofs.RoomLemmas.{lines_fit}
use Rattle.bx_dump.proofs.xxd.zeros.SkippingPagesPages.block_len.Goals as goal

pub returns-clause-fits : goal.returns-clause-fits
returns-clause-fits g c n inside =
    let p = c.args.self.now.lines in
    let C = g.F.LineForm.cols p.form in
    let R = g.F.LineForm.room p.form in
    let W = g.F.LineForm.width p.form in
    let few : (R + W * C) * p.lines ≤ 98304 = omega (arith, p.short, p.narrow) in
    omega (arith, lines_fit n C R W p.lines 98304 p.broad (omega (arith, inside, ap (λ n. n * p.lines) c.line_len.ensures.value)) few, c.args.self.now.thin)
