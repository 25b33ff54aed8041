use Rattle.std.proofs.Common.{arith}
use Rattle.bx_dump.proofs.RowLemmas.{parts_of}
use Rattle.bx_dump.proofs.od.rows.OdRows.put_other.Goals as goal

pub returns-clause-text : goal.returns-clause-text
returns-clause-text c =
    let start = c.put_blanks-start in
    parts_of start.new.page c.put_row.new.page start.result c.put_row.result _ _ (omega (arith, start.ensures.most, start.auto.page, c.requires.room))
    (omega (arith, start.ensures.most, start.auto.page, c.put_row.ensures.most, c.requires.room)) c.put_row.auto.page start.ensures.text c.put_row.ensures.text
