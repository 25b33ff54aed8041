use Rattle.std.proofs.Common.{◌^◌, ◌<◌, ◌≤◌, length, arith}
use Rattle.bx_dump_columns.specs.Values.{size_of}
use Rattle.bx_dump_columns.proofs.OdLemmas.{size_fits}
use Rattle.bx_dump_columns.proofs.od.values.put_value.Goals as goal

pub overflow_cast-value : goal.overflow_cast-value
overflow_cast-value c =
    let small : c.value_in-value.result < 256 ^ 1 = rw (c.width.ensures.value, c.in-Chars.is) at c.value_in-value.ensures.below in
    omega arith

pub put_cell-requires-clause-small : goal.put_cell-requires-clause-small
put_cell-requires-clause-small c =
    let size = c.in-Number.size in
    let small : c.value_in-value.result < 256 ^ size_of size = rw (c.width.ensures.value, c.in-Number.is) at c.value_in-value.ensures.below in
    size_fits size c.value_in-value.result (size_of size) small (omega arith)
