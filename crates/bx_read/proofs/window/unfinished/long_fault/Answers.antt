use Rattle.std.proofs.Common.{arith}
use Rattle.bx_read.proofs.UnfinishedLemmas.{read_bound}
use Rattle.bx_read.proofs.window.unfinished.long_fault.Goals as goal

pub returns-in-Ok : goal.returns-in-Ok
returns-in-Ok c = absurd (omega (arith, c.requires.long, read_bound c.args.number c.args.line.now (c.in-Ok.field-0.at, c.in-Ok.field-0.hex.now) c.in-Ok.ensures.exact))
