use Rattle.std.proofs.Common.{◌+◌, length}
use Rattle.bx_dump_columns.specs.Lines.{in_lines}
use Rattle.bx_dump_columns.proofs.LinesLemmas.{in_lines-append}
use Rattle.bx_dump.proofs.xxd.lines.LinesPages.grows.Goals as goal

pub returns-clause-more : goal.returns-clause-more
returns-clause-more g c input more seen =
    let p = c.args.self.now in
    let line = g.F.LineForm.line p.form in
    let cols = g.F.LineForm.cols p.form in
    (in_lines line cols (p.start + length input) more, in_lines-append line cols p.start seen.0 input more p.broad seen.1)
