use Rattle.std.proofs.Common.{◌≡◌, ◌<◌, arith}
use Rattle.bx_dump.specs.private.OdDump.{od_lines, lines_with_rows, shown_lines}
use Rattle.bx_dump.proofs.ShownLemmas.{lines_along, plain_by_none, rows_by_count, rows_by_text}
use Rattle.bx_dump.proofs.od.dump.dump_shown.Goals as goal

pub returns-then-o : goal.returns-then-o
returns-then-o g c =
    let o = c.args.o.now in
    record { lines = lines_along (lines_with_rows o) (shown_lines o) c.args.meter.now.taken o.limit _ _ _ _ c.dump_rows.result (rows_by_text o c.if-o.true) c.dump_rows.ensures.lines }

pub returns-then-o-gt0 : goal.returns-then-o-gt0
returns-then-o-gt0 g c =
    let o = c.args.o.now in
    let some : 0 < o.below.count = omega (arith, c.if-o-gt0.true) in
    record { lines = lines_along (lines_with_rows o) (shown_lines o) c.args.meter.now.taken o.limit _ _ _ _ c.dump_rows-then-o-gt0.result (rows_by_count o some) c.dump_rows-then-o-gt0.ensures.lines }

pub returns : goal.returns
returns g c =
    let o = c.args.o.now in
    let none : o.below.count ≡ 0 = omega (arith, c.if-o-gt0.false) in
    record { lines = lines_along (od_lines o) (shown_lines o) c.args.meter.now.taken o.limit _ _ _ _ c.dump_lines.result (plain_by_none o c.if-o.false none) c.dump_lines.ensures.lines }
