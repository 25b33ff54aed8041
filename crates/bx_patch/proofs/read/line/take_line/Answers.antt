use Rattle.bx_patch.specs.Read.{asked_of}
use Rattle.bx_patch.proofs.ReadLemmas.{adds_remark}
use Rattle.bx_patch.proofs.read.line.take_line.Goals as goal

pub returns-in-Remark-clause-ok : goal.returns-in-Remark-clause-ok
returns-in-Remark-clause-ok g c = adds_remark c.args.line.now (asked_of c.args.patch.now) c.in-Remark.ensures
