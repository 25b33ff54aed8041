use Rattle.bx_read.specs.Text.{contents}
use Rattle.bx_read.proofs.WindowLemmas.{front_fault}
use Rattle.bx_read.proofs.window.lines.LinesRead.hold_more.Goals as goal

pub returns-in-Err-shorten-clause-fault : goal.returns-in-Err-shorten-clause-fault
returns-in-Err-shorten-clause-fault g c = λ text has.
    let old = c.args.self.now in
    front_fault text c.args.bytes.now (contents old.runs.items) old.lines old.held.items has c.requires.apart c.hold.new.self.held.items c.hold.new.self.lines c.in-Ok.ensures.held c.in-Ok.ensures.lines
    c.in-Err-shorten.fault c.in-Err-shorten.ensures.fault
