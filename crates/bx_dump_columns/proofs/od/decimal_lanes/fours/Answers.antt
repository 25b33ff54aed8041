use Rattle.std.proofs.Common.{◌/◌, ◌%◌, arith}
use Rattle.bx_dump_columns.proofs.OdDecimal.{quarters}
use Rattle.bx_dump_columns.proofs.od.decimal_lanes.fours.Goals as goal

pub returns : goal.returns
returns c =
    let a = c.args.a in
    let b = c.args.b in
    let high = c.halves.ensures in
    let low = c.halves-2.ensures in
    let first = c.requires.first in
    let second = c.requires.second in
    quarters _ (a / 10000) (a % 10000) (b / 10000) (b % 10000) (omega arith) (omega arith) (omega arith) (omega arith) (omega arith)
