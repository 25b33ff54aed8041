use Rattle.std.proofs.Common.{◌*◌, arith}
use Rattle.bx_dump.specs.Od.{od_line}
use Rattle.bx_dump.proofs.FoldByLemmas.{none_by}
use Rattle.bx_dump.proofs.od.dump.dump_lines.Goals as goal

pub dump_pages-requires-clause-seen : goal.dump_pages-requires-clause-seen
dump_pages-requires-clause-seen g c = (0, omega arith, c.new-pages.ensures.fresh)

pub dump_pages-requires-clause-empty : goal.dump_pages-requires-clause-empty
dump_pages-requires-clause-empty g c =
    let p = c.new-pages.result in
    none_by p.form.width (od_line p.form.address p.form.kind p.form.endian) p.all p.start p.broad
