use Rattle.bx_dump.specs.private.Rows.{include_line}
use Rattle.bx_dump_columns.proofs.LinesLemmas.{lines_zero}
use Rattle.bx_dump.proofs.xxd.rows.ItemsLineForm.put_common.Goals as goal

pub returns-clause-text : goal.returns-clause-text
returns-clause-text c = lines_zero (include_line) c.args.self.now.cols c.args._at c.args._bytes.now c.args.self.now.some
