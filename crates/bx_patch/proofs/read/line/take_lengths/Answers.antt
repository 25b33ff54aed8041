use Rattle.bx_patch.specs.Read.{asked_of}
use Rattle.bx_patch.proofs.ReadLemmas.{adds_lengths}
use Rattle.bx_patch.proofs.read.line.take_lengths.Goals as goal

pub returns-in-Some-clause-ok : goal.returns-in-Some-clause-ok
returns-in-Some-clause-ok g c =
    adds_lengths c.args.line.now (asked_of c.args.patch.now) c.in-Some.lengths.old c.in-Some.lengths.new c.requires.0 c.in-Some.ensures
