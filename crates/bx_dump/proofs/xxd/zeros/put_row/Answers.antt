use Rattle.std.proofs.Common.{◌≡◌, ◌+◌, ◌-◌, ◌*◌, ◌/◌, ◌<◌, ◌≤◌, ℕ, true, false, ◌++◌, length, min, take, arith, sym, ap, ◌∙◌}
use Rattle.std.proofs.lemmas.List.{length-take-le}
use Rattle.bx_dump.specs.FoldBy.{line_bytes_by}
use Rattle.bx_dump.specs.Zeros.{all_zeros}
use Rattle.bx_dump.specs.private.Zeros.{PutsRows}
use Rattle.bx_dump.proofs.ZerosLemmas.{front_line_is, lines_few, rows_shown, rows_zero, whole_room}
use Rattle.bx_dump.proofs.xxd.zeros.put_row.Goals as goal

pub returns-then-busy-eq0-clause-text : goal.returns-then-busy-eq0-clause-text
returns-then-busy-eq0-clause-text g c =
    let C = g.F.LineForm.cols c.args.form.now in
    let line = g.F.LineForm.line c.args.form.now in
    let bytes = c.args.bytes.now in
    let value = c.line_len-cols.ensures.value in
    let pos = rw value at c.line_len-cols.ensures.some in
    let busy = rw value at c.busy_lines-busy.ensures in
    let first : all_zeros (line_bytes_by C bytes 0) ≡ true = busy.stops c.if-busy-eq0.true c.requires.line in
    let zeros : all_zeros (line_bytes_by C (take (C * 1) bytes) 0) ≡ true = ap all_zeros (front_line_is C 1 0 bytes (omega arith)) ∙ first in
    rw c.put_zeros.ensures.count (rows_zero line C c.args.zeros.now c.args.at (take (C * 1) bytes) _ pos zeros c.put_zeros.ensures.text)

pub put_shown-used-requires-clause-room : goal.put_shown-used-requires-clause-room
put_shown-used-requires-clause-room g c =
    let C = g.F.LineForm.cols c.args.form.now in
    let R = g.F.LineForm.room c.args.form.now in
    let bytes = c.args.bytes.now in
    let value = c.line_len-cols.ensures.value in
    let pos = rw value at c.line_len-cols.ensures.some in
    let busy = rw value at c.busy_lines-busy.ensures in
    let room = whole_room C c.busy_lines-busy.result R bytes pos busy.inside in
    let few = lines_few C c.busy_lines-busy.result R (length bytes) pos busy.inside in
    rw (value, room) (omega (arith, few, c.requires.room))

pub returns-clause-most : goal.returns-clause-most
returns-clause-most g c =
    let C = g.F.LineForm.cols c.args.form.now in
    let R = g.F.LineForm.room c.args.form.now in
    let bytes = c.args.bytes.now in
    let value = c.line_len-cols.ensures.value in
    let pos = rw value at c.line_len-cols.ensures.some in
    let busy = rw value at c.busy_lines-busy.ensures in
    let room = whole_room C c.busy_lines-busy.result R bytes pos busy.inside in
    let most = rw (value, room) at c.put_shown-used.ensures.most in
    omega (arith, most)

pub returns-clause-text : goal.returns-clause-text
returns-clause-text g c =
    let C = g.F.LineForm.cols c.args.form.now in
    let line = g.F.LineForm.line c.args.form.now in
    let bytes = c.args.bytes.now in
    let value = c.line_len-cols.ensures.value in
    let pos = rw value at c.line_len-cols.ensures.some in
    let busy = rw value at c.busy_lines-busy.ensures in
    let n = c.busy_lines-busy.result in
    let text = rw value at c.put_shown-used.ensures.text in
    rows_shown line C n c.args.zeros.now c.args.at (take (C * n) bytes) _ pos (omega (arith, c.if-busy-eq0.false))
    (λ k below. ap all_zeros (front_line_is C n k bytes below) ∙ busy.busy k below) text
