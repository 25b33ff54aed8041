use Rattle.std.proofs.Common.{◌≡◌, ◌+◌, ◌*◌, arith}
use Rattle.bx_dump.proofs.RowLemmas.{parts_of}
use Rattle.bx_dump.proofs.od.rows.OdRowsWideForm.put.Goals as goal

pub returns-clause-text : goal.returns-clause-text
returns-clause-text c =
    let l = c.args.self.now in
    let first = c.put_first-first in
    let room = 11 * l.width + 48 in
    let more : room * (l.below.count + 1) ≡ room * l.below.count + room = omega arith in
    let text = parts_of first.new.page c.put_below.new.page first.result c.put_below.result _ _ (omega (arith, first.ensures.most, first.auto.page, more, c.requires.room))
    (omega (arith, first.ensures.most, first.auto.page, c.put_below.ensures.most, more, c.requires.room)) c.put_below.auto.page first.ensures.text c.put_below.ensures.text in
    rw c.wide-wide.ensures.value at text
