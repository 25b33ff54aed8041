use Rattle.std.proofs.Common.{◌≡◌, ◌+◌, ◌-◌, ◌*◌, ◌/◌, ◌^◌, ◌<◌, ◌≤◌, ℕ, List, ◌++◌, length, min, take, drop, arith, sym, ap, ◌∙◌}
use Rattle.bx_dump.proofs.ZerosLemmas.{kept_few, put_front}
use Rattle.bx_dump.proofs.xxd.zeros.SkippingPagesPages.grows.Goals as goal

pub returns-clause-more : goal.returns-clause-more
returns-clause-more g c input more seen =
    let p = c.args.self.now in
    put_front (g.F.LineForm.line p.lines.form) (g.F.LineForm.cols p.lines.form) p.lines.start p.lines.broad input more seen.0 p.zeros seen.1

pub returns-clause-few : goal.returns-clause-few
returns-clause-few g c input seen =
    let p = c.args.self.now in
    kept_few (g.F.LineForm.line p.lines.form) (g.F.LineForm.cols p.lines.form) p.lines.start p.lines.broad (2 ^ 12) input seen.0 p.zeros (omega arith) p.short seen.1
