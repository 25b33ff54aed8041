use Rattle.bx_dump.specs.private.Rows.{include_line}
use Rattle.bx_dump_columns.proofs.LinesLemmas.{lines_zero}
use Rattle.bx_dump.proofs.xxd.rows.ItemsLineForm.put_alone.Goals as goal

pub returns-else-self-eq12-clause-text : goal.returns-else-self-eq12-clause-text
returns-else-self-eq12-clause-text c = lines_zero include_line c.args.self.now.cols c.args.at c.args.bytes.now c.args.self.now.some
