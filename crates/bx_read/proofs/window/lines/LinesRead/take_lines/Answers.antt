use Rattle.std.proofs.Common.{ap}
use Rattle.bx_read.specs.Text.{contents}
use Rattle.bx_read.proofs.WindowLemmas.{lines_read, lines_fault}
use Rattle.bx_read.proofs.window.lines.LinesRead.take_lines.Goals as goal

pub returns-in-Ok-take_held-clause-read : goal.returns-in-Ok-take_held-clause-read
returns-in-Ok-take_held-clause-read g c = λ text has.
    let old = c.args.self.now in
    let mid = c.hold.new.self in
    let new = c.take_held.new.self in
    let took = c.in-Ok-take_held.ensures in
    lines_read text c.args.lines.now (contents old.runs.items) old.lines old.held.items has c.requires.ends.0 c.requires.ends.1 mid.held.items mid.lines (contents mid.runs.items)
    c.in-Ok.ensures.held c.in-Ok.ensures.lines (ap (λ r. contents r.items) c.in-Ok.ensures.runs) (contents new.runs.items) new.lines new.held.items took.runs took.lines took.held

pub returns-in-Err-take_held-clause-fault : goal.returns-in-Err-take_held-clause-fault
returns-in-Err-take_held-clause-fault g c = λ text has.
    let old = c.args.self.now in
    let mid = c.hold.new.self in
    lines_fault text c.args.lines.now (contents old.runs.items) old.lines old.held.items has c.requires.ends.0 c.requires.ends.1 mid.held.items mid.lines (contents mid.runs.items)
    c.in-Ok.ensures.held c.in-Ok.ensures.lines (ap (λ r. contents r.items) c.in-Ok.ensures.runs) c.in-Err-take_held.fault c.in-Err-take_held.ensures.fault
