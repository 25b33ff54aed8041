use Rattle.bx_dump_columns.proofs.LinesLemmas.{in_lines-none}
use Rattle.bx_dump.proofs.xxd.dump.dump_lines.Goals as goal

pub dump_part-requires-clause-empty : goal.dump_part-requires-clause-empty
dump_part-requires-clause-empty g c =
    let lines = c.new-lines.result in
    in_lines-none (g.F.LineForm.line lines.form) (g.F.LineForm.cols lines.form) lines.start lines.broad
