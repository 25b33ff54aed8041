use Rattle.std.proofs.Common.{◌+◌, ◌*◌, ◌≤◌, arith, ap}
use Rattle.bx_dump.proofs.RoomLemmas.{lines_fit}
use Rattle.bx_dump.proofs.xxd.lines.LinesPages.block_len.Goals as goal

pub returns-clause-fits : goal.returns-clause-fits
returns-clause-fits g c n inside =
    let p = c.args.self.now in
    let C = g.F.LineForm.cols p.form in
    let R = g.F.LineForm.room p.form in
    let W = g.F.LineForm.width p.form in
    let few : (R + W * C) * p.lines ≤ 131072 = omega (arith, p.short, p.narrow) in
    lines_fit n C R W p.lines 131072 p.broad (omega (arith, inside, ap (λ n. n * p.lines) c.line_len.ensures.value)) few
