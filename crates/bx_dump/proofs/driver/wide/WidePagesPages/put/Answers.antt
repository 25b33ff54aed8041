use Rattle.std.proofs.Common.{◌+◌, ◌*◌, length, arith, ap}
use Rattle.std.proofs.lemmas.List.{length-append}
use Rattle.bx_dump.proofs.driver.wide.WidePagesPages.put.Goals as goal

pub returns-clause-text : goal.returns-clause-text
returns-clause-text g c input len seen full =
    let p = c.args.self.now in
    c.put_lines.ensures.text input seen.0 p.start seen.1 (omega (arith, len, seen.1)) seen.2

pub returns-clause-last : goal.returns-clause-last
returns-clause-last g c input len seen short =
    let p = c.args.self.now in
    c.put_lines.ensures.text input seen.0 p.start seen.1 (omega (arith, len, seen.1)) seen.2

pub returns-clause-seen : goal.returns-clause-seen
returns-clause-seen g c input len seen whole =
    let p = c.args.self.now in (
      seen.0 + p.lines,
      omega (arith, length-append input c.args.bytes.now, seen.1, whole),
      c.put_lines.ensures.taken input seen.0 p.lines seen.1 whole seen.2,
    )
