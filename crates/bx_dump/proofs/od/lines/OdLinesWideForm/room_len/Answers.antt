use Rattle.std.proofs.Common.{◌≡◌, ◌+◌, ◌-◌, ◌*◌, ◌/◌, ◌≤◌, arith, ap, refl}
use Rattle.bx_dump_columns.specs.Values.{field_width, width_of}
use Rattle.bx_dump_columns.proofs.OdLemmas.{values_few}
use Rattle.bx_dump.proofs.od.lines.OdLinesWideForm.room_len.Goals as goal

pub returns-clause-most : goal.returns-clause-most
returns-clause-most c =
    let l = c.args.self.now in
    let most = values_few l.kind l.width (omega (arith, l.narrow)) in
    rw (c.width-size.ensures.value, c.field.ensures.value) (omega (arith, most))
