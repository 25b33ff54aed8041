use Rattle.bx_dump.specs.private.Rows.{plain_line}
use Rattle.bx_dump_columns.proofs.LinesLemmas.{lines_zero}
use Rattle.bx_dump.proofs.xxd.rows.PlainLineForm.put_alone.Goals as goal

pub returns-in_default-clause-text : goal.returns-in_default-clause-text
returns-in_default-clause-text c = lines_zero (plain_line c.args.self.now.upper) c.args.self.now.cols c.args.at c.args.bytes.now c.args.self.now.some
