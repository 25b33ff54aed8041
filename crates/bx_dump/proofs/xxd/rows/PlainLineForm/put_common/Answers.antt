use Rattle.bx_dump.specs.private.Rows.{plain_line}
use Rattle.bx_dump_columns.proofs.LinesLemmas.{lines_zero}
use Rattle.bx_dump.proofs.xxd.rows.PlainLineForm.put_common.Goals as goal

pub returns-clause-text : goal.returns-clause-text
returns-clause-text c = lines_zero (plain_line c.args.self.now.upper) c.args.self.now.cols c.args._at c.args._bytes.now c.args.self.now.some
